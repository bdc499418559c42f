-- Instructions that read trees: Test, Peek. On trees the same comes of them.
use Rattle.std.proofs.Common.{◌≡◌, ℕ, zero, suc, ◌+◌, ◌<◌, Bool, true, false, List, [], ◌∷◌, length, Option, Some, slice_get, refl, sym, ap, ◌∙◌, subst, true≢false, arith, nat_lt, ◌==◌}
use Rattle.std.specs.Prelude.{option_and_then, option_map}
use Rattle.std.proofs.lemmas.Option.{none-some, same_Some}
use Rattle.tree_semantics.specs.fip_language.Values.{Value}
use Rattle.tree_semantics.specs.fip_language.Table.{Table, constructors}
use Rattle.tree_semantics.specs.fip_language.Store.{Cell, Placed, PlacedInt, Bare, At, Parts, NoParts, MoreParts, word_of, value_of, values_of}
use Rattle.separation_bounds.specs.cell_code.declared.kind.From.{From}
use Rattle.separation_bounds.specs.cell_code.declared.code.Instr.TheVariants as I
use Rattle.separation_bounds.specs.cell_code.declared.kind.Kind.{Kind}
use Rattle.separation_bounds.specs.cell_code.declared.kind.Kind.TheVariants.{Gone, Scalar, Owned, Lent, Credit}
use Rattle.tree_semantics.specs.machine_semantics.Cells.{Store}
use Rattle.tree_semantics.specs.machine_semantics.Trees.{IsTree}
use Rattle.tree_semantics.specs.machine_semantics.States.{State}
use Rattle.separation_bounds.specs.cell_code.Plain.{PlainFunction, PlainCode}
use Rattle.tree_semantics.specs.machine_semantics.Rows as R
use Rattle.tree_semantics.specs.machine_semantics.Apart.{Holding, Tree, RootIn}
use Rattle.tree_semantics.specs.Contents.{children, value_at}
use Rattle.tree_semantics.specs.States as U
use Rattle.tree_semantics.specs.Steps as N
use Rattle.separation_bounds.specs.code_rules.Types.{is_scalar_type, all, lent_kind}
use Rattle.separation_bounds.specs.code_rules.Kinds.{at, set_of, root_of}
use Rattle.separation_bounds.specs.code_rules.Ranges.{is_target}
use Rattle.separation_bounds.specs.code_rules.Asked.{may_have, known_fields}
use Rattle.separation_bounds.specs.code_rules.Changes.{tested, without}
use Rattle.separation_bounds.specs.separation_kinds.Meanings.{part_in, part_of, Means, word_at}
use Rattle.separation_bounds.proofs.separation_kinds.Basics.{pick, both, below}
use Rattle.separation_bounds.proofs.separation_kinds.Words.{word_get}
use Rattle.separation_bounds.specs.separation.Rows.{IsReady}
use Rattle.separation_bounds.proofs.separation.Reading.{constructor_is}
use Rattle.separation_bounds.proofs.separation.PlainRows.{goes_on, jumps}
use Rattle.separation_bounds.proofs.separation.ReadingRows.{has_known, get_some}
use Rattle.tree_refinement.specs.Agreement.{IsWordOf, type_in, Shows, AreShown}
use Rattle.tree_refinement.proofs.Values.{held_value, tested_shown}
use Rattle.tree_refinement.proofs.PlainFollows.{Follows, follows, on_is, writes_follow}

-- ---- Test

-- a word's constructor, which is that of the value
record HasNumber (s : Store) (w : ℕ) (v : Value) : Type 0 where
  number : ℕ
  is : R.constructor_of s w ≡ Some number
  same : (k : ℕ) → N.is_node k v ≡ (number == k)

node_number : (tb : Table) (s : Store) (t w : ℕ) (v : Value) → 0 < t → IsWordOf tb s t w v → HasNumber s w v
node_number tb s zero w v p i = absurd (let z : ⊥ = omega arith in z)
node_number tb s (suc t) w v p (PlacedInt i, g, e) = absurd g.stands
node_number tb s (suc t) w v p (Bare c, g, e) = record { number = c; is = constructor_is tb s (suc t) w c (Bare c) refl g; same = λ k. ap (N.is_node k) (sym e) }
node_number tb s (suc t) w v p (At q c xs, g, e) = record { number = c; is = constructor_is tb s (suc t) w c (At q c xs) refl g; same = λ k. ap (N.is_node k) (sym e) }

positive : (tb : Table) (t n : ℕ) → n < length (constructors tb t) → 0 < t
positive tb zero n h = absurd (let z : ⊥ = omega arith in z)
positive tb (suc t) n h = omega arith

-- a tree with a constructor is no int
rooted_positive : (tb : Table) (s : Store) (t w : ℕ) (cs : List ℕ) (x : Placed) → IsTree tb s t w x → RootIn cs (Tree x) → 0 < t
rooted_positive tb s zero w cs (PlacedInt i) g r = absurd r
rooted_positive tb s zero w cs (Bare c) g r = absurd g.stands
rooted_positive tb s zero w cs (At p c xs) g r = absurd g.stands
rooted_positive tb s (suc t) w cs x g r = omega arith

has_number : (tb : Table) (s : Store) (b : List Placed) (ks : ℕ → Kind) (hs : ℕ → Holding) (n : ℕ) (k : Kind) (w : ℕ) (h : Holding) (v : Value) → may_have tb n k ≡ true → Means tb s b ks hs k w h → Shows tb s (type_in k) w v → HasNumber s w v
has_number tb s b ks hs n Gone w h v e m i = absurd (true≢false (sym e))
has_number tb s b ks hs n (Credit z) w h v e m i = absurd (true≢false (sym e))
has_number tb s b ks hs n (Scalar t) w h v e m i = node_number tb s t w v (positive tb t n (below n (length (constructors tb t)) e)) i
has_number tb s b ks hs n (Owned t cs) w h v e m i = node_number tb s t w v (rooted_positive tb s t w cs m.tree m.is m.top) i
has_number tb s b ks hs n (Lent t cs root from) w h v e m i = node_number tb s t w v (rooted_positive tb s t w cs m.tree m.is m.top) i

branch_follows : (c : PlainCode) (f : PlainFunction) (b : List Placed) (ks : List Kind) (hs : ℕ → Holding) (s : State) (t : U.State) (r k target : ℕ) (o : Bool) → IsReady c f b ks hs s (I.Test r k target) → s.running.at ≡ t.running.at → R.done c.types ks s (I.Test r k target) ≡ R.branch s target (Some o) → AreShown c.types s.store (at ks) (word_at s.running.words) t.running.contents → Follows c f ks s (I.Test r k target) t (N.branch t target o)
branch_follows c f b ks hs s t r k target true g same is shown =
    follows c f ks s (I.Test r k target) t _ (s.running.at + 1) s.running.words (tested ks r (k ∷ [])) t.running.contents is
    (goes_on c f b ks hs s (I.Test r k target) (tested ks r (k ∷ [])) g refl)
    (on_is s t t.running.contents same)
    (tested_shown c.types s.store ks r (k ∷ []) (word_at s.running.words) t.running.contents shown)
branch_follows c f b ks hs s t r k target false g same is shown =
    let cs : List ℕ = without k (set_of (at ks r)) in
    follows c f ks s (I.Test r k target) t _ target s.running.words (tested ks r cs) t.running.contents is
    (jumps c f b ks hs s (I.Test r k target) target (tested ks r cs) g (refl, refl))
    refl
    (tested_shown c.types s.store ks r cs (word_at s.running.words) t.running.contents shown)

pub test_follows : (c : PlainCode) (f : PlainFunction) (b : List Placed) (ks : List Kind) (hs : ℕ → Holding) (s : State) (code : PlainCode) (t : U.State) (r k target : ℕ) → IsReady c f b ks hs s (I.Test r k target) → s.running.at ≡ t.running.at → AreShown c.types s.store (at ks) (word_at s.running.words) t.running.contents → Follows c f ks s (I.Test r k target) t (N.act code t (I.Test r k target))
test_follows c f b ks hs s code t r k target g same shown =
    let a = both (nat_lt r f.registers) (is_target f s.running.at target) g.ranged in
    let wide = g.wide in
    let long = g.long in
    let source = below r f.registers a.0 in
    let ws : List ℕ = s.running.words in
    let h = has_number c.types s.store b (at ks) hs k (at ks r) (word_at ws r) (hs r) (t.running.contents r) g.sources (g.meant.each r) (shown.each r) in
    subst (λ o. Follows c f ks s (I.Test r k target) t (N.branch t target o)) (sym (h.same k))
    (branch_follows c f b ks hs s t r k target (h.number == k) g same
    (ap (λ o. R.branch s target (option_map (λ n. n == k) (option_and_then (λ w. R.constructor_of s.store w) o))) (word_get ws r (omega arith))
    ∙ ap (λ o. R.branch s target (option_map (λ n. n == k) o)) h.is) shown)

-- ---- Peek

pub value_in : (xs : Parts) (i : ℕ) (x : Placed) → part_in xs i ≡ Some x → value_at (values_of xs) i ≡ Some (value_of x)
value_in NoParts i x e = absurd (none-some x e)
value_in (MoreParts y xs) zero x e = ap (λ y. Some (value_of y)) (same_Some y x e)
value_in (MoreParts y xs) (suc i) x e = value_in xs i x e

part_value : (y : Placed) (i : ℕ) (x : Placed) → part_of y i ≡ Some x → value_at (children (value_of y)) i ≡ Some (value_of x)
part_value (PlacedInt n) i x e = absurd (none-some x e)
part_value (Bare c) i x e = absurd (none-some x e)
part_value (At p c xs) i x e = value_in xs i x e

known_type : (tb : Table) (k : Kind) (i t : ℕ) → slice_get (known_fields tb k) i ≡ Some t → (u : ℕ) × (type_in k ≡ Some u)
known_type tb Gone i t e = absurd (none-some t e)
known_type tb (Scalar u) i t e = absurd (none-some t e)
known_type tb (Owned u cs) i t e = (u, refl)
known_type tb (Lent u cs root from) i t e = (u, refl)
known_type tb (Credit n) i t e = absurd (none-some t e)

pub peek_follows : (c : PlainCode) (f : PlainFunction) (b : List Placed) (ks : List Kind) (hs : ℕ → Holding) (s : State) (code : PlainCode) (t : U.State) (d r i : ℕ) → IsReady c f b ks hs s (I.Peek d r i) → s.running.at ≡ t.running.at → AreShown c.types s.store (at ks) (word_at s.running.words) t.running.contents → Follows c f ks s (I.Peek d r i) t (N.act code t (I.Peek d r i))
peek_follows c f b ks hs s code t d r i g same shown =
    let a = both (nat_lt d f.registers) (nat_lt r f.registers) g.ranged in
    let wide = g.wide in
    let long = g.long in
    let within = below d f.registers a.0 in
    let source = below r f.registers a.1 in
    let ws : List ℕ = s.running.words in
    let u = get_some (known_fields c.types (at ks r)) i (below i (length (known_fields c.types (at ks r))) g.sources) in
    let h = has_known c.types s.store b (at ks) hs r i u.0 (at ks r) (word_at ws r) (hs r) u.1 (g.meant.each r) in
    let k = known_type c.types (at ks r) i u.0 u.1 in
    let held = held_value c.types s.store b (at ks) hs (at ks r) k.0 (word_at ws r) (hs r) (t.running.contents r) h.tree k.1 (g.meant.each r) (shown.each r) h.holds in
    let read : value_at (children (t.running.contents r)) i ≡ Some (value_of h.part) = ap (λ v. value_at (children v) i) (sym held.1) ∙ part_value h.tree i h.part h.is in
    let root : Option ℕ = root_of r (at ks r) in
    let from : From = record { register = r; field = i } in
    let lent : Kind = Lent u.0 (all c.types u.0) root (Some from) in
    writes_follow c f b ks ks hs s (I.Peek d r i) t _ d (word_of h.part) (lent_kind c.types u.0 root r i) (value_of h.part) g same
    (ap (λ o. R.on s (option_and_then (λ w. R.write ws d w) (option_and_then (λ (c : Cell). slice_get c.fields i) (option_and_then (λ w. R.named s.store w) o)))) (word_get ws r (omega arith))
    ∙ ap (λ o. R.on s (option_and_then (λ w. R.write ws d w) (option_and_then (λ (c : Cell). slice_get c.fields i) o))) h.named
    ∙ ap (λ o. R.on s (option_and_then (λ w. R.write ws d w) o)) h.word)
    (u.0, u.1, refl) refl (omega arith)
    (ap (N.peeked t d) read) shown
    (pick (λ k. Shows c.types s.store (type_in k) (word_of h.part) (value_of h.part)) (is_scalar_type c.types u.0) (Scalar u.0) lent
    (λ z. (h.part, record { word = refl; stands = h.stands }, refl)) (λ z. (h.part, record { word = refl; stands = h.stands }, refl)))
