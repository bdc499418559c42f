-- The semantics of instructions that read: Arith, Test, Peek.
use Rattle.std.proofs.Common.{◌≡◌, ◌⊎◌, inl, inr, ℕ, zero, suc, ◌+◌, ◌<◌, Bool, true, false, ◌&&◌, not, List, [], ◌∷◌, length, Option, Some, None, slice_get, refl, sym, ap, ◌∙◌, subst, true≢false, arith, nat_lt, ◌==◌}
use Rattle.std.specs.Prelude.{option_and_then, option_map, Contains}
use Rattle.std.proofs.lemmas.Option.{none-some}
use Rattle.separation_kinds.specs.fip_language.declared.Operator.{Operator}
use Rattle.separation_kinds.specs.fip_language.declared.TrapKind.{TrapKind}
use Rattle.separation_kinds.specs.fip_language.Arithmetic.{Operated, Is, Fails, operate}
use Rattle.separation_kinds.specs.fip_language.Table.{Table, constructors, is_scalar}
use Rattle.separation_kinds.specs.fip_language.Store.{Cell, Placed, PlacedInt, Bare, At, word_of, words_of}
use Rattle.separation_kinds.specs.cell_code.declared.kind.From.{From}
use Rattle.separation_kinds.specs.cell_code.declared.code.Instr.{Instr}
use Rattle.separation_kinds.specs.cell_code.declared.code.Instr.TheVariants as I
use Rattle.separation_kinds.specs.cell_code.declared.kind.Kind.{Kind}
use Rattle.separation_kinds.specs.cell_code.declared.kind.Kind.TheVariants.{Gone, Scalar, Owned, Lent, Credit}
use Rattle.separation_kinds.specs.machine_semantics.Words.{int_of, scalar_word}
use Rattle.separation_kinds.specs.machine_semantics.Cells.{Store}
use Rattle.separation_kinds.specs.machine_semantics.Trees.{IsTree, Stands}
use Rattle.separation_kinds.specs.machine_semantics.States.{State}
use Rattle.separation_kinds.specs.machine_semantics.Rows as R
use Rattle.separation_kinds.specs.machine_semantics.Apart.{Holding, Tree, RootIn, LiesWithin, owned_uses}
use Rattle.separation_kinds.specs.cell_code.Plain.{PlainFunction, PlainCode}
use Rattle.separation_kinds.specs.code_rules.Types.{is_type, is_scalar_type, fields, all, lent_kind}
use Rattle.separation_kinds.specs.code_rules.Kinds.{at, is_free, is_owned, is_scalar_of, set_of, root_of}
use Rattle.separation_kinds.specs.code_rules.Ranges.{is_target}
use Rattle.separation_kinds.specs.code_rules.Asked.{may_have, known_fields, only_fields}
use Rattle.separation_kinds.specs.code_rules.Changes.{tested, without}
use Rattle.separation_kinds.specs.code_rules.Leaves.{result_type}
use Rattle.separation_kinds.specs.Meanings.{part_in, part_of, Roots, Rooted, Means, word_at}
use Rattle.separation_kinds.proofs.Basics.{pick, both, equal, unequal, below, length_become}
use Rattle.separation_kinds.proofs.Shapes.{scalar_bare, root_all, contains_one, contains_here, contains_without}
use Rattle.separation_kinds.proofs.Words.{word_get}
use Rattle.separation_kinds.proofs.Fits.{HasRoot, tested_meant, count_tested}
use Rattle.separation_kinds.proofs.Giving.{scalar_of}
use Rattle.separation_kinds.proofs.Reaching.{part_within}
use Rattle.separation_kinds.proofs.Passing.{lies_within}
use Rattle.separation.specs.Rows.{IsReady, IsDone}
use Rattle.separation.proofs.Reading.{named_is, constructor_in, constructor_is, root_of_set, root_in_set, int_fits, get_words, stand_part, fields_in}
use Rattle.separation.proofs.Arithmetic.{GivesTree, operate_gives}
use Rattle.separation.proofs.PlainRows.{goes_on, jumps, unchanged, writes_one}
pub use Rattle.separation_kinds.proofs.machine_semantics.cell_code.fip_base.fip_language.Facts.{get_there as get_some}

-- ---- Arith

-- it is done, or has no value
abbrev pub IsCalculated : PlainCode → PlainFunction → List Placed → List Kind → (ℕ → Holding) → State → Operator → ℕ → ℕ → Instr → Type 0
IsCalculated c f b ks hs s o x y i = ((R.trap (R.operated s o x y) ≡ None) × IsDone c f b ks hs s i) ⊎ ((kind : TrapKind) × (R.trap (R.operated s o x y) ≡ Some kind))

calculated_row : (c : PlainCode) (f : PlainFunction) (b : List Placed) (ks : List Kind) (hs : ℕ → Holding) (s : State) (d : ℕ) (o : Operator) (x y line col : ℕ) (r : Operated) → IsReady c f b ks hs s (I.Arith d o x y line col) → R.operated s o x y ≡ Some r → GivesTree c.types s.store (result_type o) r → IsCalculated c f b ks hs s o x y (I.Arith d o x y line col)
calculated_row c f b ks hs s d o x y line col (Fails kind) g is t = inr (kind, ap R.trap is)
calculated_row c f b ks hs s d o x y line col (Is v) g is t =
    let a = both (nat_lt d f.registers) _ g.ranged in
    let wide = g.wide in
    let within = below d f.registers a.0 in
    inl (
      ap R.trap is,
      writes_one c f b ks ks hs s (I.Arith d o x y line col) d (scalar_word v) (Scalar (result_type o)) (Tree t.tree) g (ap (R.calculated s d) is) refl refl (omega arith) g.destinations g.meant
          (record { tree = t.tree; holds = refl; is = t.is; bare = t.bare })
          (λ q. omega arith),
    )

pub arith_row : (c : PlainCode) (f : PlainFunction) (b : List Placed) (ks : List Kind) (hs : ℕ → Holding) (s : State) (d : ℕ) (o : Operator) (x y line col : ℕ) → IsReady c f b ks hs s (I.Arith d o x y line col) → IsCalculated c f b ks hs s o x y (I.Arith d o x y line col)
arith_row c f b ks hs s d o x y line col g =
    let a = both (nat_lt d f.registers) (nat_lt x f.registers && nat_lt y f.registers) g.ranged in
    let e = both (nat_lt x f.registers) (nat_lt y f.registers) a.1 in
    let k = both (is_scalar_of 0 (at ks x)) (is_scalar_of 0 (at ks y)) g.sources in
    let wide = g.wide in
    let long = g.long in
    let left = below x f.registers e.0 in
    let right = below y f.registers e.1 in
    let ws : List ℕ = s.running.words in
    let v : ℕ = word_at ws x in
    let w : ℕ = word_at ws y in
    let m = subst (λ k. Means c.types s.store b (at ks) hs k (word_at ws y) (hs y)) (scalar_of 0 (at ks y) k.1) (g.meant.each y) in
    let is : R.operated s o x y ≡ Some (operate o (int_of v) (int_of w)) =
    ap (λ z. option_and_then (λ v. option_map (λ w. operate o (int_of v) (int_of w)) (slice_get ws y)) z) (word_get ws x (omega arith))
    ∙ ap (λ z. option_map (λ w. operate o (int_of v) (int_of w)) z) (word_get ws y (omega arith)) in
    calculated_row c f b ks hs s d o x y line col (operate o (int_of v) (int_of w)) g is (operate_gives c.types s.store g.truths o (int_of v) (int_of w) (int_fits c.types s.store w m.tree m.is))

-- ---- Test

-- a register that may have a constructor has one
record HasConstructor (tb : Table) (s : Store) (k : Kind) (w : ℕ) (h : Holding) : Type 0 where
  number : ℕ
  is : R.constructor_of s w ≡ Some number
  one : HasRoot (number ∷ []) k h
  others : (c : ℕ) → (number ≡ c → ⊥) → HasRoot (without c (set_of k)) k h

scalar_constructor : (tb : Table) (s : Store) (t w : ℕ) (x : Placed) → (0 < t) → Stands tb s t x → (c : ℕ) × (constructor_in x ≡ Some c)
scalar_constructor tb s zero w x p g = absurd (omega arith)
scalar_constructor tb s (suc t) w (PlacedInt i) p g = absurd g
scalar_constructor tb s (suc t) w (Bare c) p g = (c, refl)
scalar_constructor tb s (suc t) w (At q c xs) p g = (c, refl)

has_constructor : (tb : Table) (s : Store) (b : List Placed) (ks : ℕ → Kind) (hs : ℕ → Holding) (n : ℕ) (k : Kind) (w : ℕ) (h : Holding) → may_have tb n k ≡ true → Means tb s b ks hs k w h → HasConstructor tb s k w h
has_constructor tb s b ks hs n Gone w h e m = absurd (true≢false (sym e))
has_constructor tb s b ks hs n (Credit i) w h e m = absurd (true≢false (sym e))
has_constructor tb s b ks hs n (Scalar t) w h e m =
    let z = scalar_constructor tb s t w m.tree (positive t n (below n (length (constructors tb t)) e)) m.is.stands in
    record { number = z.0; is = constructor_is tb s t w z.0 m.tree z.1 m.is; one = tt; others = λ c off. tt }
  where
    positive : (t n : ℕ) → n < length (constructors tb t) → 0 < t
    positive zero n h = absurd (let z : ⊥ = omega arith in z)
    positive (suc t) n h = omega arith
has_constructor tb s b ks hs n (Owned t cs) w h e m =
    let z = root_of_set cs m.tree m.top in
    record {
      number = z.0;
      is = constructor_is tb s t w z.0 m.tree z.1 m.is;
      one = subst (RootIn (z.0 ∷ [])) (sym m.holds) (root_in_set (z.0 ∷ []) z.0 m.tree z.1 (contains_here z.0 z.0 [] refl));
      others = λ c off. subst (RootIn (without c cs)) (sym m.holds) (root_in_set (without c cs) z.0 m.tree z.1 (contains_without c z.0 cs off z.2));
    }
has_constructor tb s b ks hs n (Lent t cs root from) w h e m =
    let z = root_of_set cs m.tree m.top in
    record {
      number = z.0;
      is = constructor_is tb s t w z.0 m.tree z.1 m.is;
      one = subst (RootIn (z.0 ∷ [])) (sym m.holds) (root_in_set (z.0 ∷ []) z.0 m.tree z.1 (contains_here z.0 z.0 [] refl));
      others = λ c off. subst (RootIn (without c cs)) (sym m.holds) (root_in_set (without c cs) z.0 m.tree z.1 (contains_without c z.0 cs off z.2));
    }

branch_row : (c : PlainCode) (f : PlainFunction) (b : List Placed) (ks : List Kind) (hs : ℕ → Holding) (s : State) (r k target n : ℕ) (o : Bool) → (n == k) ≡ o → IsReady c f b ks hs s (I.Test r k target) → R.done c.types ks s (I.Test r k target) ≡ R.branch s target (Some o) → HasRoot (n ∷ []) (at ks r) (hs r) → ((c : ℕ) → (n ≡ c → ⊥) → HasRoot (without c (set_of (at ks r))) (at ks r) (hs r)) → IsDone c f b ks hs s (I.Test r k target)
branch_row c f b ks hs s r k target n true e g is one others =
    unchanged c f b ks hs s (I.Test r k target) (s.running.at + 1) s.running.words (tested ks r (k ∷ [])) hs g is
    (goes_on c f b ks hs s (I.Test r k target) (tested ks r (k ∷ [])) g refl)
    (length_become ks _) refl
    (tested_meant c.types s.store b ks (word_at s.running.words) hs r (k ∷ []) (subst (λ n. HasRoot (n ∷ []) (at ks r) (hs r)) (equal n k e) one) g.meant)
    (λ q. count_tested q ks hs r (k ∷ []))
branch_row c f b ks hs s r k target n false e g is one others =
    let cs : List ℕ = without k (set_of (at ks r)) in
    unchanged c f b ks hs s (I.Test r k target) target s.running.words (tested ks r cs) hs g is
    (jumps c f b ks hs s (I.Test r k target) target (tested ks r cs) g (refl, refl))
    (length_become ks _) refl
    (tested_meant c.types s.store b ks (word_at s.running.words) hs r cs (others k (unequal n k e)) g.meant)
    (λ q. count_tested q ks hs r cs)

pub test_row : (c : PlainCode) (f : PlainFunction) (b : List Placed) (ks : List Kind) (hs : ℕ → Holding) (s : State) (r k target : ℕ) → IsReady c f b ks hs s (I.Test r k target) → IsDone c f b ks hs s (I.Test r k target)
test_row c f b ks hs s r k target g =
    let a = both (nat_lt r f.registers) (is_target f s.running.at target) g.ranged in
    let wide = g.wide in
    let long = g.long in
    let source = below r f.registers a.0 in
    let h = has_constructor c.types s.store b (at ks) hs k (at ks r) (word_at s.running.words r) (hs r) g.sources (g.meant.each r) in
    branch_row c f b ks hs s r k target h.number (h.number == k) refl g
    (ap (λ o. R.branch s target (option_map (λ n. n == k) (option_and_then (λ w. R.constructor_of s.store w) o))) (word_get s.running.words r (omega arith))
    ∙ ap (λ o. R.branch s target (option_map (λ n. n == k) o)) h.is)
    h.one h.others

-- ---- Peek

-- a register with known fields has a tree with a part of each, and the word of each is in its cell
pub record HasKnown (tb : Table) (s : Store) (b : List Placed) (ks : ℕ → Kind) (hs : ℕ → Holding) (r i t : ℕ) (k : Kind) (w : ℕ) (h : Holding) : Type 0 where
  pub tree : Placed
  pub holds : h ≡ Tree tree
  pub part : Placed
  pub is : part_of tree i ≡ Some part
  pub stands : Stands tb s t part
  pub cell : Cell
  pub named : R.named s w ≡ Some cell
  pub word : slice_get cell.fields i ≡ Some (word_of part)
  pub rooted : ks r ≡ k → hs r ≡ h → Rooted b ks hs (root_of r k) part
  pub roots : Roots r k (root_of r k)

only_one : (tb : Table) (t i u : ℕ) (cs : List ℕ) → slice_get (only_fields tb t cs) i ≡ Some u → (c : ℕ) × (cs ≡ c ∷ []) × (slice_get (fields tb t c) i ≡ Some u)
only_one tb t i u [] e = absurd (none-some u e)
only_one tb t i u (c ∷ []) e = (c, refl, e)
only_one tb t i u (c ∷ d ∷ cs) e = absurd (none-some u e)

record HasCellPart (tb : Table) (s : Store) (w i u : ℕ) (x : Placed) : Type 0 where
  part : Placed
  is : part_of x i ≡ Some part
  stands : Stands tb s u part
  cell : Cell
  named : R.named s w ≡ Some cell
  word : slice_get cell.fields i ≡ Some (word_of part)

cell_part : (tb : Table) (s : Store) (t w c i u : ℕ) (x : Placed) → constructor_in x ≡ Some c → IsTree tb s t w x → slice_get (fields tb t c) i ≡ Some u → HasCellPart tb s w i u x
cell_part tb s t w c i u (PlacedInt n) e g f = absurd (none-some c e)
cell_part tb s t w c i u (Bare d) e g f =
    let h = fields_in tb s t w c (Bare d) e g in
    let p = stand_part tb s (fields tb t c) h.parts i u h.stand f in
    absurd (none-some p.0 (h.part i ∙ p.1))
cell_part tb s zero w c i u (At p d xs) e g f = absurd g.stands
cell_part tb s (suc t) w c i u (At p d xs) e g f =
    let h = fields_in tb s (suc t) w c (At p d xs) e g in
    let q = stand_part tb s (fields tb (suc t) c) h.parts i u h.stand f in
    let is : part_in xs i ≡ Some q.0 = h.part i ∙ q.1 in
    record {
      part = q.0;
      is = is;
      stands = q.2;
      cell = record { tag = d; fields = words_of xs };
      named = named_is s p w g.word ∙ g.stands.0;
      word = get_words xs i q.0 is;
    }

pub rooted_within : (b : List Placed) (ks : ℕ → Kind) (hs : ℕ → Holding) (root : Option ℕ) (x y : Placed) → LiesWithin x y → Rooted b ks hs root y → Rooted b ks hs root x
rooted_within b ks hs None x y w l = lies_within x y b w l
rooted_within b ks hs (Some r) x y w u = record { owned = u.owned; tree = u.tree; holds = u.holds; within = λ q. let a = w q in let e = u.within q in omega arith }

pub has_known : (tb : Table) (s : Store) (b : List Placed) (ks : ℕ → Kind) (hs : ℕ → Holding) (r i t : ℕ) (k : Kind) (w : ℕ) (h : Holding) → slice_get (known_fields tb k) i ≡ Some t → Means tb s b ks hs k w h → HasKnown tb s b ks hs r i t k w h
has_known tb s b ks hs r i t Gone w h e m = absurd (none-some t e)
has_known tb s b ks hs r i t (Scalar u) w h e m = absurd (none-some t e)
has_known tb s b ks hs r i t (Credit n) w h e m = absurd (none-some t e)
has_known tb s b ks hs r i t (Owned u cs) w h e m =
    let o = only_one tb u i t cs e in
    let z = root_of_set cs m.tree m.top in
    let one : o.0 ≡ z.0 = contains_one o.0 z.0 (subst (λ cs. Contains cs z.0) o.1 z.2) in
    let p = cell_part tb s u w o.0 i t m.tree (z.1 ∙ ap Some (sym one)) m.is o.2 in
    record {
      tree = m.tree;
      holds = m.holds;
      part = p.part;
      is = p.is;
      stands = p.stands;
      cell = p.cell;
      named = p.named;
      word = p.word;
      rooted = λ same held. record { owned = ap is_owned same; tree = m.tree; holds = held ∙ m.holds; within = part_within m.tree i p.part p.is };
      roots = refl;
    }
has_known tb s b ks hs r i t (Lent u cs root from) w h e m =
    let o = only_one tb u i t cs e in
    let z = root_of_set cs m.tree m.top in
    let one : o.0 ≡ z.0 = contains_one o.0 z.0 (subst (λ cs. Contains cs z.0) o.1 z.2) in
    let p = cell_part tb s u w o.0 i t m.tree (z.1 ∙ ap Some (sym one)) m.is o.2 in
    record {
      tree = m.tree;
      holds = m.holds;
      part = p.part;
      is = p.is;
      stands = p.stands;
      cell = p.cell;
      named = p.named;
      word = p.word;
      rooted = λ same held. rooted_within b ks hs root p.part m.tree (part_within m.tree i p.part p.is) m.rooted;
      roots = refl;
    }

pub peek_row : (c : PlainCode) (f : PlainFunction) (b : List Placed) (ks : List Kind) (hs : ℕ → Holding) (s : State) (d r i : ℕ) → IsReady c f b ks hs s (I.Peek d r i) → IsDone c f b ks hs s (I.Peek d r i)
peek_row c f b ks hs s d r i g =
    let a = both (nat_lt d f.registers) (nat_lt r f.registers) g.ranged in
    let e = both (is_free (at ks d)) (not (d == r)) g.destinations in
    let wide = g.wide in
    let long = g.long in
    let within = below d f.registers a.0 in
    let source = below r f.registers a.1 in
    let ws : List ℕ = s.running.words in
    let t = get_some (known_fields c.types (at ks r)) i (below i (length (known_fields c.types (at ks r))) g.sources) in
    let h = has_known c.types s.store b (at ks) hs r i t.0 (at ks r) (word_at ws r) (hs r) t.1 (g.meant.each r) in
    let root : Option ℕ = root_of r (at ks r) in
    let from : From = record { register = r; field = i } in
    let lent : Kind = Lent t.0 (all c.types t.0) root (Some from) in
    writes_one c f b ks ks hs s (I.Peek d r i) d (word_of h.part) (lent_kind c.types t.0 root r i) (Tree h.part) g
    (ap (λ o. R.on s (option_and_then (λ w. R.write ws d w) (option_and_then (λ (c : Cell). slice_get c.fields i) (option_and_then (λ w. R.named s.store w) o)))) (word_get ws r (omega arith))
    ∙ ap (λ o. R.on s (option_and_then (λ w. R.write ws d w) (option_and_then (λ (c : Cell). slice_get c.fields i) o))) h.named
    ∙ ap (λ o. R.on s (option_and_then (λ w. R.write ws d w) o)) h.word)
    (t.0, t.1, refl) refl (omega arith) e.0 g.meant
    (pick (λ k. Means c.types s.store b (at ks) hs k (word_of h.part) (Tree h.part)) (is_scalar_type c.types t.0) (Scalar t.0) lent
    (λ z. record { tree = h.part; holds = refl; is = record { word = refl; stands = h.stands }; bare = scalar_bare c.types s.store t.0 h.part (both (is_type c.types t.0) (is_scalar c.types t.0) z).1 h.stands })
    (λ z. record {
      tree = h.part;
      holds = refl;
      is = record { word = refl; stands = h.stands };
      top = root_all c.types s.store t.0 h.part z h.stands;
      rooted = h.rooted refl refl;
      framed = record { tree = h.tree; holds = h.holds; part = h.is; roots = h.roots };
    }))
    (λ q. let none : owned_uses q (lent_kind c.types t.0 root r i) (Tree h.part) ≡ 0 = pick (λ k. owned_uses q k (Tree h.part) ≡ 0) (is_scalar_type c.types t.0) (Scalar t.0) lent (λ z. refl) (λ z. refl) in omega arith)
