-- What is known of a match when it begins: its patterns, positions and cells.
use Rattle.std.proofs.Common.{◌≡◌, ◌⊎◌, inl, inr, refl, sym, ap, ◌∙◌, subst, ⊎_elim, arith, ℕ, zero, suc, ◌+◌, ◌<◌, ◌≤◌, Bool, true, false, List, [], ◌∷◌, ◌++◌, length, length-append, drop, Option, Some, None, slice_get, get_or}
use Rattle.std.specs.Prelude.{if◌then◌else◌}
use Rattle.fip_trees.specs.declared.program.Clause.{Clause}
use Rattle.fip_trees.specs.declared.program.Pattern.{Pattern as Tree}
use Rattle.fip_trees.specs.Tree.{Argument, Pattern, count_patterns}
use Rattle.fip_trees.specs.TreeView.{patterns, clause, clauses}
use Rattle.match_knowledge.specs.declared.rows.Row.{Row}
use Rattle.match_knowledge.specs.View.{row}
use Rattle.lower_frame.specs.lowering_relation.declared.held.Held.TheVariants as H
use Rattle.lower_frame.specs.lowering_relation.Known.{Known, holding}
use Rattle.lower_frame.specs.lowering_relation.Values.{Setting, is_scalar}
use Rattle.lower_frame.specs.lowering_relation.LoweredFunctions.{with_credit}
use Rattle.lower_frame.specs.lowering_relation.Spots as S
use Rattle.lower_frame.specs.lowering_relation.Rows.{row_of, patterns_in}
use Rattle.lower_frame.specs.lowering_relation.Growing.{Grows}
use Rattle.lower_frame.specs.lowering_relation.Opening.{Roomy}
use Rattle.lower_frame.specs.lowering_relation.Entering.{with_cell}
use Rattle.lower_frame.specs.lowering_relation.Losing.{Loses, Resumes}
use Rattle.lower_frame.proofs.lowering_relation.Arriving.{resumes_lost}
use Rattle.lower_frame.proofs.lowering_relation.LoweredLists.{fewer_on, barer_on}
use Rattle.lower_parts.specs.declared.choice.Choice.{Choice}
use Rattle.lower_frame.specs.declared.spots.Spot.{Spot}
use Rattle.lower_frame.specs.Positions.{spot_of, reaching}
use Rattle.lower_parts.specs.declared.match_state.Matching.{Matching}
use Rattle.lower_parts.specs.Scenes.{pattern_at, patterns_of, HasRows, IsWhole, ChoosesIf}
use Rattle.lower_parts.specs.Clauses.{Spotted, AddsPattern, HasPositions, StartsIn}
use Rattle.lower_frame.specs.lowering_relation.Written.{Written, size, Extends, IsAt}
use Rattle.lower_frame.specs.lowering_relation.Landing.{Side}
use Rattle.lower_frame.specs.lowering_relation.Entering.{entering_root}
use Rattle.code_size.specs.Places.{argument_places}
use Rattle.lower_parts.specs.Growth.{Adds, Sheds}
use Rattle.lower_frame.specs.Registers.{HasRoom, registers}
use Rattle.lower_frame.specs.Labels.{labels}
use Rattle.lower_parts.proofs.Shedding.{full_most, root_length}
use Rattle.fip_language.proofs.Facts.{if_false, if_true, map_length, same_some}
use Rattle.fip_trees.proofs.TreeViews.{count_patterns_view as counted}
pub use Rattle.lower_frame.proofs.Losing.{loses_on as loses_then}

pub adds_pattern : (c d : Choice) (q : Pattern) (root : Spot) (a b : ℕ) (r : Row) → Grows (spot_of c.root) (spot_of root) a b → Roomy q (spot_of root) → d.root ≡ root → d.ty ≡ c.ty → patterns_of d ≡ patterns_of c ++ q ∷ [] → (row r ≡ row_of q → HasRows (record c { root = root }) → HasRows d) → row r ≡ row_of q → AddsPattern c d q a b
adds_pattern c d q root a b r g h e f p rs rq = record {
  grows = subst (λ x. Grows (spot_of c.root) (spot_of x) a b) (sym e) g;
  roomy = subst (λ x. Roomy q (spot_of x)) (sym e) h;
  type = f;
  patterns = p;
  rows = λ has. rs rq (record { same = has.same });
}

pub ruleset adding = (adds_pattern)

pub positions_new : (c : Choice) (r t n m : ℕ) → spot_of c.root ≡ S.At r S.NoSpots → c.ty ≡ t → patterns_of c ≡ [] → HasRows c → m ≡ n → HasPositions c r t n m
positions_new c r t n m e f p h g = subst (HasPositions c r t n) (sym g) (record {
  root = ap S.register e;
  type = f;
  rows = h;
  spotted = subst (Spotted n n) (sym e) (record { grows = omega arith; fresh = λ z x. absurd x; differ = tt });
  roomy = λ i q x. absurd (none_there i (slice_get (patterns_of c) i) q x (ap (λ z. slice_get z i) p));
})
  where
    none_there : (i : ℕ) (o : Option Pattern) (q : Pattern) → o ≡ Some q → o ≡ None → ⊥
    none_there i o q x y = absurd (cc)

get_snoc : {A : Type 0} (xs : List A) (x : A) (i : ℕ) (y : A) → slice_get (xs ++ x ∷ []) i ≡ Some y → (slice_get xs i ≡ Some y) ⊎ (x ≡ y)
get_snoc [] x zero y e = inr (same_some x y e)
get_snoc [] x (suc i) y e = absurd (cc)
get_snoc (z ∷ xs) x zero y e = inl e
get_snoc (z ∷ xs) x (suc i) y e = get_snoc xs x i y e

spotted_on : (low a b : ℕ) (s t : S.Spot) → Spotted low a s → Grows s t a b → Spotted low b t
spotted_on low a b s t h g = record {
  grows = let p = h.grows in let q = g.grows in omega (arith, p, q);
  fresh = λ z x. ⊎_elim (λ old. let f = h.fresh z old in let lt = f.1 in let le = g.grows in (f.0, omega (arith, lt, le))) (λ new. let p = h.grows in let q = new.0 in (omega (arith, p, q), new.1)) (g.new z x);
  differ = g.differ (λ z x. (h.fresh z x).1) h.differ;
}

pub positions_on : (c d : Choice) (q : Pattern) (r t low a b : ℕ) → HasPositions c r t low a → AddsPattern c d q a b → HasPositions d r t low b
positions_on c d q r t low a b h x = record {
  root = x.grows.register ∙ h.root;
  type = x.type ∙ h.type;
  rows = x.rows h.rows;
  spotted = spotted_on low a b (spot_of c.root) (spot_of d.root) h.spotted x.grows;
  roomy = λ i p e. ⊎_elim (λ old. x.grows.roomy p (h.roomy i p old)) (λ new. subst (λ z. Roomy z (spot_of d.root)) new x.roomy) (get_snoc (patterns_of c) q i p (sym (ap (λ z. slice_get z i) x.patterns) ∙ e));
}

-- the clauses' patterns

append_one : (xs : List Pattern) (x : Pattern) (ys : List Pattern) → xs ++ (x ∷ ys) ≡ (xs ++ x ∷ []) ++ ys
append_one [] x ys = refl
append_one (z ∷ xs) x ys = ap (λ u. z ∷ u) (append_one xs x ys)

append_none : (xs : List Pattern) → xs ++ [] ≡ xs
append_none [] = refl
append_none (x ∷ xs) = ap (λ z. x ∷ z) (append_none xs)

clauses_at : (cs : List Clause) (i : ℕ) (c : Clause) → slice_get cs i ≡ Some c → patterns_in (clauses (drop i cs)) ≡ (clause c).pattern ∷ patterns_in (clauses (drop (suc i) cs))
clauses_at [] i c e = absurd (cc)
clauses_at (d ∷ cs) zero c e = ap (λ x. (clause x).pattern ∷ patterns_in (clauses cs)) (same_some d c e)
clauses_at (d ∷ cs) (suc i) c e = clauses_at cs i c e

clauses_past : (cs : List Clause) (i : ℕ) → length cs ≤ i → patterns_in (clauses (drop i cs)) ≡ []
clauses_past [] zero h = refl
clauses_past [] (suc i) h = refl
clauses_past (c ∷ cs) zero h = absurd (omega (arith, h))
clauses_past (c ∷ cs) (suc i) h = clauses_past cs i (omega (arith, h))

pub patterns_next : (c d : Choice) (q : Pattern) (a b : ℕ) (cs : List Clause) (i n : ℕ) (x : Clause) (all : List Pattern) → AddsPattern c d q a b → n ≡ suc i → slice_get cs i ≡ Some x → (clause x).pattern ≡ q → patterns_of c ++ patterns_in (clauses (drop i cs)) ≡ all → patterns_of d ++ patterns_in (clauses (drop n cs)) ≡ all
patterns_next c d q a b cs i n x all h e f g k =
    ap (λ z. patterns_of d ++ patterns_in (clauses (drop z cs))) e ∙ ap (λ z. z ++ patterns_in (clauses (drop (suc i) cs))) h.patterns
    ∙ sym (append_one (patterns_of c) q (patterns_in (clauses (drop (suc i) cs)))) ∙ ap (λ z. patterns_of c ++ z ∷ patterns_in (clauses (drop (suc i) cs))) (sym g) ∙ sym (ap (λ z. patterns_of c ++ z) (clauses_at cs i x f)) ∙ k

pub patterns_end : (c : Choice) (cs : List Clause) (i : ℕ) (all : List Pattern) → length cs ≤ i → patterns_of c ++ patterns_in (clauses (drop i cs)) ≡ all → patterns_of c ≡ all
patterns_end c cs i all e k = sym (append_none (patterns_of c)) ∙ sym (ap (λ z. patterns_of c ++ z) (clauses_past cs i e)) ∙ k

counted_clauses : (cs : List Clause) → length (patterns_in (clauses cs)) ≡ length cs
counted_clauses [] = refl
counted_clauses (c ∷ cs) = ap suc (counted_clauses cs)

pub as_many_clauses : (c : Choice) (q : Pattern) (cs : List Clause) → length c.entries.items ≡ length (patterns_of c) → patterns_of c ≡ q ∷ patterns_in (clauses cs) → length c.entries.items ≡ suc (length cs)
as_many_clauses c q cs e p = e ∙ ap length p ∙ ap suc (counted_clauses cs)

pub whole_choice : (c : Choice) → HasRows c → length c.entries.items ≡ length (patterns_of c) → IsWhole c
whole_choice c h e = record { patterns = sym (map_length pattern_at c.patterns.items) ∙ many; entries = e ∙ many }
  where
    many : length (patterns_of c) ≡ length c.rows.items
    many = sym (map_length row_of (patterns_of c)) ∙ ap length (sym h.same) ∙ map_length row c.rows.items

-- a label for each

pub labels_next : (c d : Choice) (q : Pattern) (a b : ℕ) (v u w : Written) → AddsPattern c d q a b → labels u ≡ labels v + length (patterns_of c) → labels w ≡ suc (labels u) → labels w ≡ labels v + length (patterns_of d)
labels_next c d q a b v u w h e f = let n : length (patterns_of d) ≡ length (patterns_of c ++ q ∷ []) = ap length h.patterns in omega (arith, n, length-append (patterns_of c) (q ∷ []), e, f)

pub labels_first : (c d : Choice) (q : Pattern) (a b : ℕ) (v w : Written) → patterns_of c ≡ [] → AddsPattern c d q a b → labels w ≡ suc (labels v) → labels w ≡ labels v + length (patterns_of d)
labels_first c d q a b v w p h f = labels_next c d q a b v v w h (let n : length (patterns_of c) ≡ 0 = ap length p in omega (arith, n)) f

-- cells

pub cell_credit : (s : Setting) (t c : ℕ) (ps : List Tree) (r : ℕ) (k : Known) → 0 < length ps → with_credit k (length ps) r ≡ with_cell s true t c (patterns ps) r k
cell_credit s t c [] r k h = absurd (omega (arith, h))
cell_credit s t c (p ∷ ps) r k h = ap (λ n. with_credit k (suc n) r) (sym (counted ps))

pub cell_scalar : (s : Setting) (t c : ℕ) (ps : List Tree) (r : ℕ) (k : Known) → length ps ≡ 0 → is_scalar s t ≡ true → k ≡ with_cell s true t c (patterns ps) r k
cell_scalar s t c [] r k h e = sym (if_true (is_scalar s t) k (holding k r (H.Bare t c)) e)
cell_scalar s t c (p ∷ ps) r k h e = absurd (omega (arith, h))

pub cell_bare : (s : Setting) (t c : ℕ) (ps : List Tree) (r : ℕ) (k : Known) → length ps ≡ 0 → is_scalar s t ≡ false → holding k r (H.Bare t c) ≡ with_cell s true t c (patterns ps) r k
cell_bare s t c [] r k h e = sym (if_false (is_scalar s t) k (holding k r (H.Bare t c)) e)
cell_bare s t c (p ∷ ps) r k h e = absurd (omega (arith, h))

pub ruleset cells = (cell_credit, cell_scalar, cell_bare)

-- what is known where the clauses begin

pub resumes_reached : (k l m : Known) → Loses k l → m ≡ reaching l m.next → l.next ≤ m.next → Resumes k m
resumes_reached k l m h e le = let r = resumes_lost k l h in subst (Resumes k) (sym e) (record {
  names = r.names;
  grows = let g = r.grows in omega (arith, g, le);
  credits = r.credits;
  barer = r.barer;
})

pub entry_room : (k l m o : Known) → l.next ≡ k.next → registers l ≡ registers k → HasRoom l m → o ≡ m → HasRoom k o
entry_room k l m o e f h g = let n : o.next ≡ m.next = ap (λ (x : Known). x.next) g in omega (arith, e, f, h, n)

-- how much is written before the first clause
pub begun_few : (k m n : Known) (v u x y z w : Written) (a : Argument) (p : ℕ) → registers m ≡ registers k → Adds (argument_places a) 0 v u → Sheds m u n x → labels y ≤ suc (labels x) → labels z ≡ labels y + p → labels w ≡ suc (labels z) → size w ≡ size x → Adds (argument_places a + registers k) (2 + p) v w
begun_few k m n v u x y z w a p e f g h i j l = record {
  more_instructions = let c = f.more_instructions in let d = g.emptied in omega (arith, c, d, full_most m.held, e, l);
  more_labels = let c = f.more_labels in let d = g.same_labels in omega (arith, c, d, h, i, j);
}

-- a clause begins
pub starts_in : (s : Setting) (g : Matching) (q : Pattern) (i label : ℕ) (v chosen put w : Written) (ds es : List Side) (copied opened known l : Known) → ChoosesIf s.types g.choice i v ds chosen es true → (length g.choice.rows.items ≤ suc i → es ≡ []) → Extends chosen put → put.instrs ≡ chosen.instrs → IsAt put label (size chosen) → w ≡ put → label ≡ get_or g.choice.entries.items i 0 → copied ≡ g.entry → Resumes copied opened → known ≡ entering_root s g.choice.takes q (spot_of g.choice.root) opened → Loses known l → registers opened ≡ registers copied → registers l ≡ registers known → labels put ≡ labels chosen → StartsIn s g q i v ds l w es
starts_in s g q i label v chosen put w ds es copied opened known l c a e f p same at cp r o lost ro rl ll = record {
  chosen = chosen;
  opened = opened;
  chooses = c;
  all = a;
  extends = subst (Extends chosen) (sym same) e;
  as_long = ap size same ∙ ap length f;
  placed = subst (λ z. IsAt w z (size w)) at (subst (λ z. IsAt z label (size z)) (sym same) (subst (IsAt put label) (sym (ap length f)) p));
  resumes = subst (λ z. Resumes z opened) cp r;
  opens = subst (λ z. Loses z l) o lost;
  as_many = rl ∙ ap registers o ∙ root_length s g.choice.takes q (spot_of g.choice.root) opened ∙ ro ∙ ap registers cp;
  same_labels = ap labels same ∙ ll;
}
