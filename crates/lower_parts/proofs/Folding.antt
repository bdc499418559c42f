-- Positions of a pattern's parts, one after another: what is changed at each of them is changed at all.
use Rattle.std.proofs.Common.{◌≡◌, refl, sym, ap, ◌∙◌, subst, arith, ℕ, zero, suc, ◌+◌, ◌<◌, ◌≤◌, Bool, true, false, List, [], ◌∷◌, ◌++◌, length, drop, Option, Some, None, slice_get, get_or}
use Rattle.std.specs.Prelude.{if◌then◌else◌, ◌==◌}
use Rattle.std.proofs.lemmas.Bool.{eqb-false}
use Rattle.cell_code.specs.declared.code.Instr.TheVariants as I
use Rattle.std.proofs.lemmas.Option.{slice_get-get_or}
use Rattle.fip_trees.specs.declared.program.Pattern.{Pattern as Tree}
use Rattle.fip_trees.specs.Tree.{Pattern, Patterns, NoPatterns, MorePatterns}
use Rattle.fip_trees.specs.TreeView.{pattern, patterns}
use Rattle.match_knowledge.specs.declared.rows.Row.{Row}
use Rattle.match_knowledge.specs.declared.knowledge.Knowledge.{Knowledge}
use Rattle.match_knowledge.specs.Patterns as M
use Rattle.match_knowledge.specs.declared.heads.Head.{Head}
use Rattle.match_knowledge.specs.declared.verdicts.Verdict.TheVariants as D
use Rattle.match_knowledge.specs.ValueHeads.{same_head}
use Rattle.match_knowledge.specs.Known.{Known, Is, Knowns, NoKnowns, MoreKnowns, compare, compare_all, is_asks}
use Rattle.match_knowledge.proofs.Split.{asks_is, both_asks, is_asking}
use Rattle.match_knowledge.specs.View.{row, row_step, parts, known, known_step, knowns}
use Rattle.lower_frame.specs.lowering_relation.Known as L
use Rattle.lower_frame.specs.lowering_relation.Values.{Setting}
use Rattle.lower_frame.specs.lowering_relation.Written.{Written, added}
use Rattle.lower_frame.specs.lowering_relation.Rows as R
use Rattle.lower_frame.specs.lowering_relation.Spots as S
use Rattle.lower_frame.specs.lowering_relation.Entering.{entering, entering_all}
use Rattle.lower_frame.specs.lowering_relation.Opening.{as_many, take_if, taking, taking_all, naming_all}
use Rattle.lower_frame.specs.lowering_relation.Reading.{Reading, Asked, asked, asked_first, read_one, reading, reading_first}
use Rattle.std.specs.declared.vec.Vec.{Vec}
use Rattle.std.specs.declared.alloc.Global.{Global}
use Rattle.match_knowledge.specs.declared.rows.Row.TheVariants as RV
use Rattle.match_knowledge.specs.declared.rows.Row.TheOpen as RO
use Rattle.match_knowledge.specs.declared.rows.Row.TheFolds.{fold-roll-Row}
use Rattle.match_knowledge.specs.declared.knowledge.Knowledge.TheVariants as KV
use Rattle.match_knowledge.specs.declared.knowledge.Knowledge.TheOpen as KO
use Rattle.match_knowledge.specs.declared.knowledge.Knowledge.TheFolds.{fold-roll-Knowledge}
use Rattle.lower_frame.specs.declared.spots.Spot.{Spot, out-Spot}
use Rattle.lower_frame.specs.declared.spots.Spot.TheFolds.{fold_out-Spot}
use Rattle.lower_frame.specs.Positions.{spot_of, spots_of, spot_at, spot_step, past}
use Rattle.lower_parts.specs.Scenes.{AsksAt, AtSpot, asking, naming_part}
use Rattle.fip_language.proofs.Facts.{append_none, append_one, same_some}
pub use Rattle.fip_language.proofs.Facts.{get_at as item, if_false, if_true, nonempty}
pub use Rattle.code_size.proofs.match_cover.MissingWalk.{known_node as known_is}

-- the parts from a place on

parts_at : (ps : List Tree) (i : ℕ) (p : Tree) → slice_get ps i ≡ Some p → patterns (drop i ps) ≡ MorePatterns (pattern p) (patterns (drop (suc i) ps))
parts_at [] i p e = absurd (cc)
parts_at (q ∷ ps) zero p e = ap (λ x. MorePatterns (pattern x) (patterns ps)) (same_some q p e)
parts_at (q ∷ ps) (suc i) p e = parts_at ps i p e

parts_past : (ps : List Tree) (i : ℕ) → length ps ≤ i → patterns (drop i ps) ≡ NoPatterns
parts_past [] zero h = refl
parts_past [] (suc i) h = refl
parts_past (p ∷ ps) zero h = absurd (omega (arith, h))
parts_past (p ∷ ps) (suc i) h = parts_past ps i (omega (arith, h))

pub spots_at : (ss : S.Spots) (i : ℕ) (s : S.Spot) → spot_at ss i ≡ Some s → past i ss ≡ S.MoreSpots s (past (suc i) ss)
spots_at S.NoSpots i s e = absurd (cc)
spots_at (S.MoreSpots t ss) zero s e = ap (λ x. S.MoreSpots x ss) (same_some t s e)
spots_at (S.MoreSpots t ss) (suc i) s e = spots_at ss i s e

-- the position of a slice
pub spot_there : (ss : List Spot) (i : ℕ) (s : Spot) → slice_get ss i ≡ Some s → spot_at (spots_of ss) i ≡ Some (spot_of s)
spot_there [] i s e = absurd (cc)
spot_there (t ∷ ss) zero s e = ap (λ x. Some (spot_of x)) (same_some t s e)
spot_there (t ∷ ss) (suc i) s e = spot_there ss i s e

pub spot_is : (s : Spot) → spot_of s ≡ S.At (out-Spot s).register (spots_of (out-Spot s).fields.items)
spot_is s = fold_out-Spot S.Spot spot_step s

pub register_is : (s : Spot) → (out-Spot s).register ≡ S.register (spot_of s)
register_is s = sym (ap S.register (spot_is s))

pub fields_are : (s : Spot) → spots_of (out-Spot s).fields.items ≡ S.fields (spot_of s)
fields_are s = sym (ap S.fields (spot_is s))

pub field_there : (s : Spot) (i : ℕ) (t : Spot) → slice_get (out-Spot s).fields.items i ≡ Some t → spot_at (S.fields (spot_of s)) i ≡ Some (spot_of t)
field_there s i t e = ap (λ z. spot_at z i) (sym (fields_are s)) ∙ spot_there (out-Spot s).fields.items i t e

pub read_is : (x y : Reading) (s t : Spot) (i : ℕ) → y ≡ read_one x (out-Spot s).register i (out-Spot t).register → y ≡ read_one x (S.register (spot_of s)) i (S.register (spot_of t))
read_is x y s t i e = e ∙ ap (λ z. read_one x z i (out-Spot t).register) (register_is s) ∙ ap (λ z. read_one x (S.register (spot_of s)) i z) (register_is t)

pub row_test : (t : ℕ) (h : Head) (ps : Vec Row Global) → row (RV.Test t h ps) ≡ M.Test t h (parts ps.items)
row_test t h ps = ap row (sym (RV.rolls-Test t h ps)) ∙ fold-roll-Row M.Pattern row_step (RO.Test t h ps)

-- a change of all positions, where `all` begins at place i of the parts
module _ {A : Type 0} (all : ℕ → Patterns → S.Spots → A → A) (one : ℕ → Pattern → S.Spot → A → A) (more : (i : ℕ) (p : Pattern) (ps : Patterns) (s : S.Spot) (ss : S.Spots) (a : A) → all i (MorePatterns p ps) (S.MoreSpots s ss) a ≡ all (suc i) ps ss (one i p s a)) (none : (i : ℕ) (ss : S.Spots) (a : A) → all i NoPatterns ss a ≡ a) where
  pub fold_next : (ps : List Tree) (ss : S.Spots) (i j n : ℕ) (p : Tree) (a b : A) → j ≡ i → n ≡ suc i → slice_get ps i ≡ Some p → AtSpot (one i (pattern p)) ss j a b → all n (patterns (drop n ps)) (past n ss) b ≡ all i (patterns (drop i ps)) (past i ss) a
  fold_next ps ss i j n p a b e f g h =
      ap (λ x. all x (patterns (drop x ps)) (past x ss) b) f ∙ ap (all (suc i) (patterns (drop (suc i) ps)) (past (suc i) ss)) h.is
      ∙ sym (more i (pattern p) (patterns (drop (suc i) ps)) h.spot (past (suc i) ss) a)
      ∙ sym (ap (λ x. all i (patterns (drop i ps)) x a) (spots_at ss i h.spot (ap (spot_at ss) (sym e) ∙ h.there)) ∙ ap (λ x. all i x (S.MoreSpots h.spot (past (suc i) ss)) a) (parts_at ps i p g))

  pub fold_end : (ps : List Tree) (ss : S.Spots) (i : ℕ) (a : A) → length ps ≤ i → all i (patterns (drop i ps)) (past i ss) a ≡ a
  fold_end ps ss i a h = ap (λ x. all i x (past i ss) a) (parts_past ps i h) ∙ none i (past i ss) a

-- cells that are taken apart

abbrev all_taken : ℕ → Patterns → S.Spots → Written → Written
all_taken i ps ss w = taking_all ps ss w

abbrev one_taken : ℕ → Pattern → S.Spot → Written → Written
one_taken i p s w = taking p s w

pub taken_next : (ps : List Tree) (ss : S.Spots) (i j n : ℕ) (p : Tree) (a b : Written) → j ≡ i → n ≡ suc i → slice_get ps i ≡ Some p → AtSpot (taking (pattern p)) ss j a b → taking_all (patterns (drop n ps)) (past n ss) b ≡ taking_all (patterns (drop i ps)) (past i ss) a
taken_next = fold_next all_taken one_taken (λ i p ps s ss a. refl) (λ i ss a. refl)

pub taken_end : (ps : List Tree) (ss : S.Spots) (i : ℕ) (a : Written) → length ps ≤ i → taking_all (patterns (drop i ps)) (past i ss) a ≡ a
taken_end = fold_end all_taken one_taken (λ i p ps s ss a. refl) (λ i ss a. refl)

-- what is read

module _ (r : ℕ) where
  abbrev all_named : ℕ → Patterns → S.Spots → Reading → Reading
  all_named i ps ss x = naming_all ps ss r i x

  pub read_next : (ps : List Tree) (ss : S.Spots) (i j n : ℕ) (p : Tree) (a b : Reading) → j ≡ i → n ≡ suc i → slice_get ps i ≡ Some p → AtSpot (naming_part r i (pattern p)) ss j a b → naming_all (patterns (drop n ps)) (past n ss) r n b ≡ naming_all (patterns (drop i ps)) (past i ss) r i a
  read_next = fold_next all_named (naming_part r) (λ i p ps s ss a. refl) (λ i ss a. refl)

  pub read_end : (ps : List Tree) (ss : S.Spots) (i : ℕ) (a : Reading) → length ps ≤ i → naming_all (patterns (drop i ps)) (past i ss) r i a ≡ a
  read_end = fold_end all_named (naming_part r) (λ i p ps s ss a. refl) (λ i ss a. refl)

-- what is known

module _ (st : Setting) (takes : Bool) (root : Option ℕ) where
  abbrev all_entered : ℕ → Patterns → S.Spots → L.Known → L.Known
  all_entered i ps ss k = entering_all st takes root ps ss k

  abbrev one_entered : ℕ → Pattern → S.Spot → L.Known → L.Known
  one_entered i p s k = entering st takes root p s k

  pub entered_next : (ps : List Tree) (ss : S.Spots) (i j n : ℕ) (p : Tree) (a b : L.Known) → j ≡ i → n ≡ suc i → slice_get ps i ≡ Some p → AtSpot (entering st takes root (pattern p)) ss j a b → entering_all st takes root (patterns (drop n ps)) (past n ss) b ≡ entering_all st takes root (patterns (drop i ps)) (past i ss) a
  entered_next = fold_next all_entered one_entered (λ i p ps s ss a. refl) (λ i ss a. refl)

  pub entered_end : (ps : List Tree) (ss : S.Spots) (i : ℕ) (a : L.Known) → length ps ≤ i → entering_all st takes root (patterns (drop i ps)) (past i ss) a ≡ a
  entered_end = fold_end all_entered one_entered (λ i p ps s ss a. refl) (λ i ss a. refl)

-- their registers

pub many_next : (ps : List Tree) (ss : S.Spots) (i n : ℕ) (p : Tree) (s : S.Spot) (r : ℕ) (as' bs all : List ℕ) → n ≡ suc i → slice_get ps i ≡ Some p → spot_at ss i ≡ Some s → r ≡ S.register s → bs ≡ as' ++ r ∷ [] → as' ++ as_many (patterns (drop i ps)) (past i ss) ≡ all → bs ++ as_many (patterns (drop n ps)) (past n ss) ≡ all
many_next ps ss i n p s r as' bs all e f g h k m =
    ap (λ x. bs ++ as_many (patterns (drop x ps)) (past x ss)) e ∙ ap (λ x. x ++ rest) k ∙ ap (λ x. (as' ++ x ∷ []) ++ rest) h ∙ sym (append_one as' (S.register s) rest)
    ∙ sym (ap (λ x. as' ++ x) (ap (λ x. as_many x (past i ss)) (parts_at ps i p f) ∙ ap (as_many (MorePatterns (pattern p) (patterns (drop (suc i) ps)))) (spots_at ss i s g))) ∙ m
  where
    rest : List ℕ
    rest = as_many (patterns (drop (suc i) ps)) (past (suc i) ss)

pub many_end : (ps : List Tree) (ss : S.Spots) (i : ℕ) (as' all : List ℕ) → length ps ≤ i → as' ++ as_many (patterns (drop i ps)) (past i ss) ≡ all → as' ≡ all
many_end ps ss i as' all e h = sym (append_none as') ∙ sym (ap (λ x. as' ++ as_many x (past i ss)) (parts_past ps i e)) ∙ h

-- what a pattern asks for first

from_test : (b : Bool) (n m : ℕ) (o : Option ℕ) → (o ≡ Some m → suc n ≤ m) → (if b then Some n else o) ≡ Some m → n ≤ m
from_test true n m o f e = let g = same_some n m e in omega (arith, g)
from_test false n m o f e = let le = f e in omega (arith, le)

from_on : (ps : M.Patterns) (ks : Knowns) (n m : ℕ) → asking ps ks n ≡ Some m → n ≤ m
from_on M.NoPatterns ks n m e = absurd (cc)
from_on (M.MorePatterns p ps) NoKnowns n m e = absurd (cc)
from_on (M.MorePatterns p ps) (MoreKnowns k ks) n m e = from_test (is_asks (compare p k)) n m (asking ps ks (suc n)) (from_on ps ks (suc n) m) e

pub record FirstIs (rs : List Row) (ks : List Knowledge) (ss : S.Spots) (p : Row) (k : Knowledge) (s : S.Spot) (r i : ℕ) (x : Reading) (f : ℕ) : Type 0 where
  pub reads : reading_first (parts rs) (knowns ks) ss r i x ≡ reading (row p) (known k) s (read_one x r (i + f) (S.register s))
  pub asks : asked_first (parts rs) (knowns ks) ss ≡ asked (row p) (known k) s

first_here : (b : Bool) (q : Row) (rs : List Row) (l : Knowledge) (ks : List Knowledge) (t : S.Spot) (ss : S.Spots) (n : ℕ) (r i : ℕ) (x : Reading) → is_asks (compare (row q) (known l)) ≡ b → asking (parts (q ∷ rs)) (knowns (l ∷ ks)) n ≡ Some (n + 0) → FirstIs (q ∷ rs) (l ∷ ks) (S.MoreSpots t ss) q l t r i x zero
first_here true q rs l ks t ss n r i x g e = record {
  reads = if_true (is_asks (compare (row q) (known l))) (reading (row q) (known l) t (read_one x r i (S.register t))) (reading_first (parts rs) (knowns ks) ss r (suc i) x) g
      ∙ ap (λ u. reading (row q) (known l) t (read_one x r u (S.register t))) (omega arith);
  asks = if_true (is_asks (compare (row q) (known l))) (asked (row q) (known l) t) (asked_first (parts rs) (knowns ks) ss) g;
}
first_here false q rs l ks t ss n r i x g e = absurd (too_far (from_on (parts rs) (knowns ks) (suc n) (n + 0) (sym (if_false (is_asks (compare (row q) (known l))) (Some n) (asking (parts rs) (knowns ks) (suc n)) g) ∙ e)))
  where
    too_far : suc n ≤ n + 0 → ⊥
    too_far le = absurd (omega (arith, le))

first_later : (b : Bool) (q : Row) (rs : List Row) (l : Knowledge) (ks : List Knowledge) (t : S.Spot) (ss : S.Spots) (n f : ℕ) (p : Row) (k : Knowledge) (s : S.Spot) (r i : ℕ) (x : Reading) → is_asks (compare (row q) (known l)) ≡ b → asking (parts (q ∷ rs)) (knowns (l ∷ ks)) n ≡ Some (n + suc f) → (asking (parts rs) (knowns ks) (suc n) ≡ Some (suc n + f) → FirstIs rs ks ss p k s r (suc i) x f) → FirstIs (q ∷ rs) (l ∷ ks) (S.MoreSpots t ss) p k s r i x (suc f)
first_later true q rs l ks t ss n f p k s r i x g e on = absurd (too_near (same_some n (n + suc f) (sym (if_true (is_asks (compare (row q) (known l))) (Some n) (asking (parts rs) (knowns ks) (suc n)) g) ∙ e)))
  where
    too_near : n ≡ n + suc f → ⊥
    too_near h = absurd (omega (arith, h))
first_later false q rs l ks t ss n f p k s r i x g e on = record {
  reads = if_false (is_asks (compare (row q) (known l))) (reading (row q) (known l) t (read_one x r i (S.register t))) (reading_first (parts rs) (knowns ks) ss r (suc i) x) g
      ∙ here.reads ∙ ap (λ u. reading (row p) (known k) s (read_one x r u (S.register s))) (omega arith);
  asks = if_false (is_asks (compare (row q) (known l))) (asked (row q) (known l) t) (asked_first (parts rs) (knowns ks) ss) g ∙ here.asks;
}
  where
    here : FirstIs rs ks ss p k s r (suc i) x f
    here = on (sym (if_false (is_asks (compare (row q) (known l))) (Some n) (asking (parts rs) (knowns ks) (suc n)) g) ∙ e ∙ ap Some (omega arith))

pub first_is : (rs : List Row) (ks : List Knowledge) (ss : S.Spots) (n f : ℕ) (p : Row) (k : Knowledge) (s : S.Spot) (r i : ℕ) (x : Reading) → asking (parts rs) (knowns ks) n ≡ Some (n + f) → slice_get rs f ≡ Some p → slice_get ks f ≡ Some k → spot_at ss f ≡ Some s → FirstIs rs ks ss p k s r i x f
first_is [] ks ss n f p k s r i x e a b c = absurd (cc)
first_is (q ∷ rs) [] ss n f p k s r i x e a b c = absurd (cc)
first_is (q ∷ rs) (l ∷ ks) S.NoSpots n f p k s r i x e a b c = absurd (cc)
first_is (q ∷ rs) (l ∷ ks) (S.MoreSpots t ss) n zero p k s r i x e a b c =
    subst (λ u. FirstIs (q ∷ rs) (l ∷ ks) (S.MoreSpots t ss) u k s r i x zero) (same_some q p a)
    (subst (λ u. FirstIs (q ∷ rs) (l ∷ ks) (S.MoreSpots t ss) q u s r i x zero) (same_some l k b)
    (subst (λ u. FirstIs (q ∷ rs) (l ∷ ks) (S.MoreSpots t ss) q l u r i x zero) (same_some t s c)
    (first_here (is_asks (compare (row q) (known l))) q rs l ks t ss n r i x refl e)))
first_is (q ∷ rs) (l ∷ ks) (S.MoreSpots t ss) n (suc f) p k s r i x e a b c =
    first_later (is_asks (compare (row q) (known l))) q rs l ks t ss n f p k s r i x refl e (λ h. first_is rs ks ss (suc n) f p k s r (suc i) x h a b c)

asked_is : (t : ℕ) (h g : Head) (ps : M.Patterns) (ks : Knowns) (s : S.Spot) → asked (M.Test t h ps) (Is g ks) s ≡ asked_first ps ks (S.fields s)
asked_is t h g ps ks (S.At r fs) = refl

reading_is : (t : ℕ) (h g : Head) (ps : M.Patterns) (ks : Knowns) (s : S.Spot) (x : Reading) → reading (M.Test t h ps) (Is g ks) s x ≡ reading_first ps ks (S.fields s) (S.register s) 0 x
reading_is t h g ps ks (S.At r fs) x = refl

-- where patterns ask, one of them does

some_by : (b : Bool) (p : M.Pattern) (ps : M.Patterns) (k : Known) (ks : Knowns) (n : ℕ) → is_asks (compare p k) ≡ b → compare_all (M.MorePatterns p ps) (MoreKnowns k ks) ≡ D.Asks → None ≡ asking (M.MorePatterns p ps) (MoreKnowns k ks) n → (compare_all ps ks ≡ D.Asks → None ≡ asking ps ks (suc n) → ⊥) → ⊥
some_by true p ps k ks n g e f on = let h : None ≡ Some n = f ∙ if_true (is_asks (compare p k)) (Some n) (asking ps ks (suc n)) g in cc
some_by false p ps k ks n g e f on = on (both_asks (compare p k) (compare_all ps ks) e g) (f ∙ if_false (is_asks (compare p k)) (Some n) (asking ps ks (suc n)) g)

pub asks_some : (ps : M.Patterns) (ks : Knowns) (n : ℕ) → compare_all ps ks ≡ D.Asks → None ≡ asking ps ks n → ⊥
asks_some M.NoPatterns ks n e f = cc
asks_some (M.MorePatterns p ps) NoKnowns n e f = cc
asks_some (M.MorePatterns p ps) (MoreKnowns k ks) n e f = some_by (is_asks (compare p k)) p ps k ks n refl e f (asks_some ps ks (suc n))

pub record FoundAt (rs : List Row) (ks : List Knowledge) (n f : ℕ) : Type 0 where
  pub place : ℕ
  pub is : f ≡ n + place
  pub part : place < length rs
  pub known : place < length ks
  pub asks : AsksAt rs ks place

found_by : (b : Bool) (q : Row) (rs : List Row) (l : Knowledge) (ks : List Knowledge) (n f : ℕ) → is_asks (compare (row q) (known l)) ≡ b → asking (parts (q ∷ rs)) (knowns (l ∷ ks)) n ≡ Some f → (asking (parts rs) (knowns ks) (suc n) ≡ Some f → FoundAt rs ks (suc n) f) → FoundAt (q ∷ rs) (l ∷ ks) n f
found_by true q rs l ks n f g e on = record {
  place = zero;
  is = let h = same_some n f (sym (if_true (is_asks (compare (row q) (known l))) (Some n) (asking (parts rs) (knowns ks) (suc n)) g) ∙ e) in omega (arith, h);
  part = omega arith;
  known = omega arith;
  asks = λ r k a b. subst (λ z. compare (row z) (known k) ≡ D.Asks) (same_some q r a) (subst (λ z. compare (row q) (known z) ≡ D.Asks) (same_some l k b) (is_asking (compare (row q) (known l)) g));
}
found_by false q rs l ks n f g e on =
    let h : FoundAt rs ks (suc n) f = on (sym (if_false (is_asks (compare (row q) (known l))) (Some n) (asking (parts rs) (knowns ks) (suc n)) g) ∙ e) in
    record {
      place = suc h.place;
      is = let x = h.is in omega (arith, x);
      part = let x = h.part in omega (arith, x);
      known = let x = h.known in omega (arith, x);
      asks = λ r k a b. h.asks r k a b;
    }

pub asks_found : (rs : List Row) (ks : List Knowledge) (n f : ℕ) → asking (parts rs) (knowns ks) n ≡ Some f → FoundAt rs ks n f
asks_found [] ks n f e = absurd (cc)
asks_found (q ∷ rs) [] n f e = absurd (cc)
asks_found (q ∷ rs) (l ∷ ks) n f e = found_by (is_asks (compare (row q) (known l))) q rs l ks n f refl e (asks_found rs ks (suc n) f)

pub found_part : (rs : List Row) (ks : List Knowledge) (f : ℕ) → asking (parts rs) (knowns ks) 0 ≡ Some f → f < length rs
found_part rs ks f e = let h = asks_found rs ks 0 f e in let x = h.is in let y = h.part in omega (arith, x, y)

pub found_known : (rs : List Row) (ks : List Knowledge) (f : ℕ) → asking (parts rs) (knowns ks) 0 ≡ Some f → f < length ks
found_known rs ks f e = let h = asks_found rs ks 0 f e in let x = h.is in let y = h.known in omega (arith, x, y)

pub found_asks : (rs : List Row) (ks : List Knowledge) (f : ℕ) → asking (parts rs) (knowns ks) 0 ≡ Some f → AsksAt rs ks f
found_asks rs ks f e = let h = asks_found rs ks 0 f e in let same : h.place ≡ f = (let x = h.is in omega (arith, x)) in subst (AsksAt rs ks) same h.asks

row_any : row RV.Any ≡ M.Any
row_any = ap row (sym RV.rolls-Any) ∙ fold-roll-Row M.Pattern row_step RO.Any

pub not_any : (r : Row) (k : Known) → r ≡ RV.Any → compare (row r) k ≡ D.Asks → ⊥
not_any r k a e = let f : D.Fits ≡ D.Asks = sym (ap (λ x. compare x k) (ap row a ∙ row_any)) ∙ e in cc

pub parts_ask : (r : Row) (l : Knowledge) (t : ℕ) (h g : Head) (ps : Vec Row Global) (ks : Vec Knowledge Global) → r ≡ RV.Test t h ps → l ≡ KV.Is g ks → compare (row r) (known l) ≡ D.Asks → compare_all (parts ps.items) (knowns ks.items) ≡ D.Asks
parts_ask r l t h g ps ks a b e =
    (asks_is (compare_all (parts ps.items) (knowns ks.items)) (same_head h g) (sym (ap (λ x. compare x (known l)) (ap row a ∙ row_test t h ps) ∙ ap (compare (M.Test t h (parts ps.items))) (ap known b ∙ known_is g ks)) ∙ e)).1

pub asked_in : (t : ℕ) (h g : Head) (rs : List Row) (ks : List Knowledge) (s : S.Spot) (f : ℕ) (p : Row) (k : Knowledge) (q : S.Spot) (o : Option Asked) → asking (parts rs) (knowns ks) 0 ≡ Some f → slice_get rs f ≡ Some p → slice_get ks f ≡ Some k → spot_at (S.fields s) f ≡ Some q → asked (row p) (known k) q ≡ o → asked (M.Test t h (parts rs)) (Is g (knowns ks)) s ≡ o
asked_in t h g rs ks s f p k q o e a b c d = asked_is t h g (parts rs) (knowns ks) s ∙ (first_is rs ks (S.fields s) 0 f p k q (S.register s) 0 nothing (e ∙ ap Some (omega arith)) a b c).asks ∙ d
  where
    nothing : Reading
    nothing = record { written = record { instrs = []; places = []; maps = [] }; read = [] }

pub reading_in : (t : ℕ) (h g : Head) (rs : List Row) (ks : List Knowledge) (s : S.Spot) (f : ℕ) (p : Row) (k : Knowledge) (q : S.Spot) (x y z : Reading) → asking (parts rs) (knowns ks) 0 ≡ Some f → slice_get rs f ≡ Some p → slice_get ks f ≡ Some k → spot_at (S.fields s) f ≡ Some q → y ≡ read_one x (S.register s) f (S.register q) → z ≡ reading (row p) (known k) q y → z ≡ reading (M.Test t h (parts rs)) (Is g (knowns ks)) s x
reading_in t h g rs ks s f p k q x y z e a b c d m =
    m ∙ ap (reading (row p) (known k) q) (d ∙ ap (λ u. read_one x (S.register s) u (S.register q)) (omega arith))
    ∙ sym (first_is rs ks (S.fields s) 0 f p k q (S.register s) 0 x (e ∙ ap Some (omega arith)) a b c).reads ∙ sym (reading_is t h g (parts rs) (knowns ks) s x)

-- a cell with fields

pub taken_cell : (r : ℕ) (ps : List Tree) (ss : S.Spots) (v w : Written) (rs : List ℕ) → 0 < length ps → rs ≡ as_many (patterns ps) ss → w ≡ added v (I.Take r rs) → w ≡ take_if r (patterns ps) ss v
taken_cell r [] ss v w rs h e f = absurd (omega (arith, h))
taken_cell r (p ∷ ps) ss v w rs h e f = f ∙ ap (λ x. added v (I.Take r x)) e

-- patterns without names

abbrev pub before_rows : List Row → M.Patterns → M.Patterns
before_rows [] ps = ps
before_rows (r ∷ rs) ps = M.MorePatterns (row r) (before_rows rs ps)

before_pushed : (rs : List Row) (r : Row) (ps : M.Patterns) → before_rows (rs ++ r ∷ []) ps ≡ before_rows rs (M.MorePatterns (row r) ps)
before_pushed [] r ps = refl
before_pushed (q ∷ rs) r ps = ap (M.MorePatterns (row q)) (before_pushed rs r ps)

before_all : (rs : List Row) → before_rows rs M.NoPatterns ≡ parts rs
before_all [] = refl
before_all (r ∷ rs) = ap (M.MorePatterns (row r)) (before_all rs)

pub rows_next : (rs ss : List Row) (r : Row) (ps : List Tree) (i n : ℕ) (p : Tree) (z : M.Patterns) → ss ≡ rs ++ r ∷ [] → row r ≡ R.row_of (pattern p) → n ≡ suc i → slice_get ps i ≡ Some p → before_rows rs (R.rows_of (patterns (drop i ps))) ≡ z → before_rows ss (R.rows_of (patterns (drop n ps))) ≡ z
rows_next rs ss r ps i n p z e f g h k =
    ap (λ x. before_rows x (R.rows_of (patterns (drop n ps)))) e ∙ before_pushed rs r (R.rows_of (patterns (drop n ps))) ∙ ap (λ x. before_rows rs (M.MorePatterns x (R.rows_of (patterns (drop n ps))))) f
    ∙ ap (λ x. before_rows rs (M.MorePatterns (R.row_of (pattern p)) (R.rows_of (patterns (drop x ps))))) g ∙ sym (ap (λ x. before_rows rs (R.rows_of x)) (parts_at ps i p h)) ∙ k

pub rows_end : (rs : List Row) (ps : List Tree) (i : ℕ) (z : M.Patterns) → length ps ≤ i → before_rows rs (R.rows_of (patterns (drop i ps))) ≡ z → parts rs ≡ z
rows_end rs ps i z e k = sym (before_all rs) ∙ sym (ap (λ x. before_rows rs (R.rows_of x)) (parts_past ps i e)) ∙ k
