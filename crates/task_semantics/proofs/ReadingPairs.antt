-- Instructions that read trees, alone and among others: Test, Peek.
use Rattle.std.proofs.Common.{◌≡◌, ℕ, zero, suc, ◌+◌, ◌<◌, Bool, true, false, List, [], ◌∷◌, length, Option, Some, slice_get, refl, sym, ap, ◌∙◌, subst, true≢false, arith, nat_lt, ◌==◌}
use Rattle.std.specs.Prelude.{option_and_then, option_map}
use Rattle.std.proofs.lemmas.Option.{none-some, same_Some}
use Rattle.run_loading.specs.fip_language.Table.{Table, constructors, is_scalar}
use Rattle.run_loading.specs.fip_language.Store.{Cell, Placed, PlacedInt, Bare, At, Parts, NoParts, MoreParts, word_of, words_of}
use Rattle.run_loading.specs.cell_code.declared.code.Instr.TheVariants as I
use Rattle.run_loading.specs.cell_code.declared.kind.Kind.{Kind}
use Rattle.run_loading.specs.cell_code.declared.kind.Kind.TheVariants.{Gone, Scalar, Owned, Lent, Credit}
use Rattle.run_loading.specs.machine_semantics.Cells.{Store}
use Rattle.run_loading.specs.machine_semantics.Trees.{Stands, StandAll, IsTree}
use Rattle.run_loading.specs.machine_semantics.States.{State}
use Rattle.run_loading.specs.machine_semantics.Rows as R
use Rattle.run_loading.specs.machine_semantics.Apart.{Holding, Tree, RootIn}
use Rattle.run_loading.specs.cell_code.Plain.{PlainFunction, PlainCode}
use Rattle.run_loading.specs.code_rules.Types.{is_type, is_scalar_type, all, lent_kind}
use Rattle.run_loading.specs.code_rules.Kinds.{at, set_of, root_of}
use Rattle.run_loading.specs.code_rules.Ranges.{is_target}
use Rattle.run_loading.specs.code_rules.Asked.{may_have, known_fields}
use Rattle.run_loading.specs.code_rules.Changes.{tested, without}
use Rattle.run_loading.specs.separation_kinds.Meanings.{part_in, part_of, Means, word_at}
use Rattle.run_loading.proofs.separation_kinds.Basics.{pick, both, below}
use Rattle.run_loading.proofs.separation_kinds.Shapes.{scalar_bare}
use Rattle.run_loading.proofs.separation_kinds.Reaching.{same_tree}
use Rattle.run_loading.proofs.separation_kinds.Words.{word_get}
use Rattle.run_loading.specs.separation.Rows.{IsReady}
use Rattle.run_loading.proofs.separation.Reading.{named_is, constructor_in, constructor_is, get_words}
use Rattle.run_loading.proofs.separation.PlainRows.{goes_on, jumps}
use Rattle.run_loading.proofs.separation.ReadingRows.{has_known, get_some}
use Rattle.run_loading.specs.tree_refinement.Agreement.{type_in}
use Rattle.run_loading.proofs.tree_refinement.Values.{same_placed}
use Rattle.task_semantics.specs.Projected.{Renaming, renamed, renamed_parts, IsRenamedTree, IsRenamedWord}
use Rattle.task_semantics.proofs.Renamings.{restands, bare_word, bare_stands, part_renamed, constructor_renamed}
use Rattle.task_semantics.proofs.AlikeWords.{typed_renamed, tested_alike}
use Rattle.task_semantics.proofs.PlainPairs.{IsPair, Pairs, plain_pair, on_pair, writes_pair}

-- ---- Test

-- both words have the same constructor
record HaveNumber (own shared : Store) (w v : ℕ) : Type 0 where
  number : ℕ
  alone : R.constructor_of own w ≡ Some number
  among : R.constructor_of shared v ≡ Some number

trees_number : (tb : Table) (f : Renaming) (own shared : Store) (t w v c : ℕ) → (i : IsRenamedTree tb f own shared t w v) → constructor_in i.tree ≡ Some c → HaveNumber own shared w v
trees_number tb f own shared t w v c i e = record {
  number = c;
  alone = constructor_is tb own t w c i.tree e i.alone;
  among = constructor_is tb shared t v c (renamed f i.tree) (constructor_renamed f i.tree ∙ e) i.among;
}

some_constructor : (tb : Table) (s : Store) (t : ℕ) (x : Placed) → 0 < t → Stands tb s t x → (c : ℕ) × (constructor_in x ≡ Some c)
some_constructor tb s zero x p g = absurd (let z : ⊥ = omega arith in z)
some_constructor tb s (suc t) (PlacedInt i) p g = absurd g
some_constructor tb s (suc t) (Bare c) p g = (c, refl)
some_constructor tb s (suc t) (At q c xs) p g = (c, refl)

positive : (tb : Table) (t n : ℕ) → n < length (constructors tb t) → 0 < t
positive tb zero n h = absurd (let z : ⊥ = omega arith in z)
positive tb (suc t) n h = omega arith

-- a tree with a constructor is no int
rooted_positive : (tb : Table) (s : Store) (t w : ℕ) (cs : List ℕ) (x : Placed) → IsTree tb s t w x → RootIn cs (Tree x) → 0 < t
rooted_positive tb s zero w cs (PlacedInt i) g r = absurd r
rooted_positive tb s zero w cs (Bare c) g r = absurd g.stands
rooted_positive tb s zero w cs (At p c xs) g r = absurd g.stands
rooted_positive tb s (suc t) w cs x g r = omega arith

by_tree : (tb : Table) (f : Renaming) (own shared : Store) (t w v : ℕ) → 0 < t → IsRenamedTree tb f own shared t w v → HaveNumber own shared w v
by_tree tb f own shared t w v p i = let c = some_constructor tb own t i.tree p i.alone.stands in trees_number tb f own shared t w v c.0 i c.1

have_number : (tb : Table) (f : Renaming) (own shared : Store) (b : List Placed) (ks : ℕ → Kind) (hs : ℕ → Holding) (n : ℕ) (k : Kind) (w v : ℕ) (h : Holding) → may_have tb n k ≡ true → Means tb own b ks hs k w h → IsRenamedWord tb f own shared k w v → HaveNumber own shared w v
have_number tb f own shared b ks hs n Gone w v h e m i = absurd (true≢false (sym e))
have_number tb f own shared b ks hs n (Credit z) w v h e m i = absurd (true≢false (sym e))
have_number tb f own shared b ks hs n (Scalar t) w v h e m i = by_tree tb f own shared t w v (positive tb t n (below n (length (constructors tb t)) e)) (typed_renamed tb f own shared b ks hs (Scalar t) t w v h refl m i)
have_number tb f own shared b ks hs n (Owned t cs) w v h e m i = by_tree tb f own shared t w v (rooted_positive tb own t w cs m.tree m.is m.top) i
have_number tb f own shared b ks hs n (Lent t cs root from) w v h e m i = by_tree tb f own shared t w v (rooted_positive tb own t w cs m.tree m.is m.top) i

branch_pair : (f : Renaming) (c : PlainCode) (fn : PlainFunction) (b : List Placed) (ks : List Kind) (hs : ℕ → Holding) (s u : State) (r k target : ℕ) (o : Bool) → IsReady c fn b ks hs s (I.Test r k target) → IsPair f c ks s u → R.done c.types ks s (I.Test r k target) ≡ R.branch s target (Some o) → R.done c.types ks u (I.Test r k target) ≡ R.branch u target (Some o) → Pairs f c fn ks hs s u (I.Test r k target)
branch_pair f c fn b ks hs s u r k target true g m is also =
    plain_pair f c fn ks hs s u (I.Test r k target) (s.running.at + 1) s.running.words u.running.words (tested ks r (k ∷ [])) m is (also ∙ on_pair f c ks s u u.running.words m)
    (goes_on c fn b ks hs s (I.Test r k target) (tested ks r (k ∷ [])) g refl) m.long
    (tested_alike c.types f s.store u.store ks r (k ∷ []) (word_at s.running.words) (word_at u.running.words) m.alike)
branch_pair f c fn b ks hs s u r k target false g m is also =
    let cs : List ℕ = without k (set_of (at ks r)) in
    plain_pair f c fn ks hs s u (I.Test r k target) target s.running.words u.running.words (tested ks r cs) m is also
    (jumps c fn b ks hs s (I.Test r k target) target (tested ks r cs) g (refl, refl)) m.long
    (tested_alike c.types f s.store u.store ks r cs (word_at s.running.words) (word_at u.running.words) m.alike)

tests : (s : State) (r k target n : ℕ) → r < length s.running.words → R.constructor_of s.store (word_at s.running.words r) ≡ Some n → R.branch s target (option_map (λ n. n == k) (option_and_then (λ w. R.constructor_of s.store w) (R.register s r))) ≡ R.branch s target (Some (n == k))
tests s r k target n h e =
    ap (λ o. R.branch s target (option_map (λ n. n == k) (option_and_then (λ w. R.constructor_of s.store w) o))) (word_get s.running.words r h)
    ∙ ap (λ o. R.branch s target (option_map (λ n. n == k) o)) e

pub test_pair : (f : Renaming) (c : PlainCode) (fn : PlainFunction) (b : List Placed) (ks : List Kind) (hs : ℕ → Holding) (s u : State) (r k target : ℕ) → IsReady c fn b ks hs s (I.Test r k target) → IsPair f c ks s u → Pairs f c fn ks hs s u (I.Test r k target)
test_pair f c fn b ks hs s u r k target g m =
    let a = both (nat_lt r fn.registers) (is_target fn s.running.at target) g.ranged in
    let wide = g.wide in
    let long = g.long in
    let even = m.long in
    let source = below r fn.registers a.0 in
    let ws : List ℕ = s.running.words in
    let vs : List ℕ = u.running.words in
    let h = have_number c.types f s.store u.store b (at ks) hs k (at ks r) (word_at ws r) (word_at vs r) (hs r) g.sources (g.meant.each r) (m.alike.each r) in
    branch_pair f c fn b ks hs s u r k target (h.number == k) g m
    (tests s r k target h.number (omega arith) h.alone)
    (tests u r k target h.number (omega arith) h.among)

-- ---- Peek

pub placed_part : (tb : Table) (s : Store) (ts : List ℕ) (xs : Parts) (i : ℕ) (x : Placed) → part_in xs i ≡ Some x → StandAll tb s ts xs → (t : ℕ) × Stands tb s t x
placed_part tb s ts NoParts i x e g = absurd (none-some x e)
placed_part tb s [] (MoreParts y xs) i x e g = absurd g
placed_part tb s (t ∷ ts) (MoreParts y xs) zero x e g = (t, subst (Stands tb s t) (same_Some y x e) g.0)
placed_part tb s (t ∷ ts) (MoreParts y xs) (suc i) x e g = placed_part tb s ts xs i x e g.1

-- the part of a renamed tree, as it is in the shared store
record HasMatePart (tb : Table) (f : Renaming) (shared : Store) (v i : ℕ) (x : Placed) : Type 0 where
  cell : Cell
  named : R.named shared v ≡ Some cell
  word : slice_get cell.fields i ≡ Some (word_of (renamed f x))
  type : ℕ
  stands : Stands tb shared type (renamed f x)

mate_part : (tb : Table) (f : Renaming) (shared : Store) (t v i : ℕ) (y x : Placed) → part_of y i ≡ Some x → IsTree tb shared t v (renamed f y) → HasMatePart tb f shared v i x
mate_part tb f shared t v i (PlacedInt n) x e h = absurd (none-some x e)
mate_part tb f shared t v i (Bare c) x e h = absurd (none-some x e)
mate_part tb f shared zero v i (At p c xs) x e h = absurd h.stands
mate_part tb f shared (suc t) v i (At p c xs) x e h =
    let is : part_in (renamed_parts f xs) i ≡ Some (renamed f x) = part_renamed f xs i x e in
    let part = placed_part tb shared h.stands.2.fields (renamed_parts f xs) i (renamed f x) is h.stands.4 in
    record {
      cell = record { tag = c; fields = words_of (renamed_parts f xs) };
      named = named_is shared (f p) v h.word ∙ h.stands.0;
      word = get_words (renamed_parts f xs) i (renamed f x) is;
      type = part.0;
      stands = part.1;
    }

known_type : (tb : Table) (k : Kind) (i t : ℕ) → slice_get (known_fields tb k) i ≡ Some t → (u : ℕ) × (type_in k ≡ Some u)
known_type tb Gone i t e = absurd (none-some t e)
known_type tb (Scalar u) i t e = absurd (none-some t e)
known_type tb (Owned u cs) i t e = (u, refl)
known_type tb (Lent u cs root from) i t e = (u, refl)
known_type tb (Credit n) i t e = absurd (none-some t e)

-- the tree that a register holds is the one that is renamed
held_renamed : (tb : Table) (f : Renaming) (own shared : Store) (b : List Placed) (ks : ℕ → Kind) (hs : ℕ → Holding) (k : Kind) (t w v : ℕ) (h : Holding) (y : Placed) → type_in k ≡ Some t → Means tb own b ks hs k w h → IsRenamedWord tb f own shared k w v → h ≡ Tree y → IsTree tb shared t v (renamed f y)
held_renamed tb f own shared b ks hs Gone t w v h y e m i held = absurd (none-some t e)
held_renamed tb f own shared b ks hs (Credit n) t w v h y e m i held = absurd (none-some t e)
held_renamed tb f own shared b ks hs (Scalar u) t w v h y e m i held =
    let x : IsTree tb shared u v (renamed f m.tree) = record { word = bare_word f m.tree m.bare ∙ m.is.word ∙ sym i; stands = bare_stands tb f own shared u m.tree m.bare m.is.stands } in
    let same : m.tree ≡ y = same_tree m.tree y (sym m.holds ∙ held) in
    subst (λ t. IsTree tb shared t v (renamed f y)) (same_Some u t e) (subst (λ y. IsTree tb shared u v (renamed f y)) same x)
held_renamed tb f own shared b ks hs (Owned u cs) t w v h y e m i held =
    let same : i.tree ≡ y = same_placed tb own u i.tree m.tree i.alone.stands m.is.stands (i.alone.word ∙ sym m.is.word) ∙ same_tree m.tree y (sym m.holds ∙ held) in
    subst (λ t. IsTree tb shared t v (renamed f y)) (same_Some u t e) (subst (λ y. IsTree tb shared u v (renamed f y)) same i.among)
held_renamed tb f own shared b ks hs (Lent u cs root from) t w v h y e m i held =
    let same : i.tree ≡ y = same_placed tb own u i.tree m.tree i.alone.stands m.is.stands (i.alone.word ∙ sym m.is.word) ∙ same_tree m.tree y (sym m.holds ∙ held) in
    subst (λ t. IsTree tb shared t v (renamed f y)) (same_Some u t e) (subst (λ y. IsTree tb shared u v (renamed f y)) same i.among)

peeks : (s : State) (d r i w : ℕ) (cell : Cell) → r < length s.running.words → R.named s.store (word_at s.running.words r) ≡ Some cell → slice_get cell.fields i ≡ Some w → R.on s (option_and_then (λ w. R.write s.running.words d w) (R.peeked s r i)) ≡ R.on s (R.write s.running.words d w)
peeks s d r i w cell h named word =
    ap (λ o. R.on s (option_and_then (λ w. R.write s.running.words d w) (option_and_then (λ (c : Cell). slice_get c.fields i) (option_and_then (λ w. R.named s.store w) o)))) (word_get s.running.words r h)
    ∙ ap (λ o. R.on s (option_and_then (λ w. R.write s.running.words d w) (option_and_then (λ (c : Cell). slice_get c.fields i) o))) named
    ∙ ap (λ o. R.on s (option_and_then (λ w. R.write s.running.words d w) o)) word

pub peek_pair : (f : Renaming) (c : PlainCode) (fn : PlainFunction) (b : List Placed) (ks : List Kind) (hs : ℕ → Holding) (s u : State) (d r i : ℕ) → IsReady c fn b ks hs s (I.Peek d r i) → IsPair f c ks s u → Pairs f c fn ks hs s u (I.Peek d r i)
peek_pair f c fn b ks hs s u d r i g m =
    let a = both (nat_lt d fn.registers) (nat_lt r fn.registers) g.ranged in
    let wide = g.wide in
    let long = g.long in
    let even = m.long in
    let within = below d fn.registers a.0 in
    let source = below r fn.registers a.1 in
    let ws : List ℕ = s.running.words in
    let vs : List ℕ = u.running.words in
    let t = get_some (known_fields c.types (at ks r)) i (below i (length (known_fields c.types (at ks r))) g.sources) in
    let h = has_known c.types s.store b (at ks) hs r i t.0 (at ks r) (word_at ws r) (hs r) t.1 (g.meant.each r) in
    let k = known_type c.types (at ks r) i t.0 t.1 in
    let y : IsTree c.types u.store k.0 (word_at vs r) (renamed f h.tree) = held_renamed c.types f s.store u.store b (at ks) hs (at ks r) k.0 (word_at ws r) (word_at vs r) (hs r) h.tree k.1 (g.meant.each r) (m.alike.each r) h.holds in
    let p = mate_part c.types f u.store k.0 (word_at vs r) i h.tree h.part h.is y in
    let stands : Stands c.types u.store t.0 (renamed f h.part) = restands c.types f s.store u.store t.0 p.type h.part h.stands p.stands in
    let root : Option ℕ = root_of r (at ks r) in
    let lent : Kind = Lent t.0 (all c.types t.0) root (Some (record { register = r; field = i })) in
    writes_pair f c fn b ks ks hs s u (I.Peek d r i) d (word_of h.part) (word_of (renamed f h.part)) (lent_kind c.types t.0 root r i) g m
    (peeks s d r i (word_of h.part) h.cell (omega arith) h.named h.word)
    (peeks u d r i (word_of (renamed f h.part)) p.cell (omega arith) p.named p.word)
    (t.0, t.1, refl) refl (omega arith) m.alike
    (pick (λ k. IsRenamedWord c.types f s.store u.store k (word_of h.part) (word_of (renamed f h.part))) (is_scalar_type c.types t.0) (Scalar t.0) lent
    (λ z. bare_word f h.part (scalar_bare c.types s.store t.0 h.part (both (is_type c.types t.0) (is_scalar c.types t.0) z).1 h.stands))
    (λ z. record { tree = h.part; alone = record { word = refl; stands = h.stands }; among = record { word = refl; stands = stands } }))
