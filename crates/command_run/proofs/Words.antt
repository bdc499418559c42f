-- What is loaded into a new store needs just the words of the values' cells and of the credits' cells.
-- Idea: a sum over the sizes of one cell is the words of this cell, and sums join.
use Rattle.std.proofs.Common.{◌≡◌, ◌∙◌, ◌<◌, ◌≤◌, ◌+◌, ◌-◌, ◌*◌, ℕ, zero, suc, Bool, true, false, List, [], ◌∷◌, length, if◌then◌else◌, refl, ap, ap₂, arith}
use Rattle.std.specs.Prelude.{nat_eq}
use Rattle.std.proofs.lemmas.Bool.{eqb-true, eqb-false}
use Rattle.std.proofs.Math.Nat.{mul-zero, mul-one}
use Rattle.fip_language.specs.SoundTable.{IsSoundTable}
use Rattle.fip_language.specs.Store.{one_at, count}
use Rattle.fip_language.specs.Table.{Table, HasType, HaveTypes}
use Rattle.fip_language.specs.Values.{Value, Int, Node, Values, End, More, count_of, one_of_size, cells, cells_of_all, words_of_node, words_needed, words_needed_by_all}
use Rattle.cell_store.specs.Cells.{Cells, count_free}
use Rattle.cell_store.specs.Made.{Loading}
use Rattle.command_eval.specs.machine_correctness.run_loading.Loading.{words_of_credits}
use Rattle.value_text.specs.Loaded.{AreSizes, free_in, needed, wanted, words_up_to}
use Rattle.value_text.proofs.Credits.{sum_join}
use Rattle.value_text.proofs.Taken.{one_other, words_same, words_suc, words_zero}
use Rattle.command_run.specs.CodeRun.{words_for}
use Rattle.fip_language.proofs.Facts.{times_minus_one as top_one, times_minus_zero as top_zero}
use Rattle.command_eval.proofs.Texts.{no_free}

-- ---- one cell

-- no size up to n is needed
none_up_to : (n : ℕ) (f : ℕ → ℕ) → ((k : ℕ) → k ≤ n → f k ≡ 0) → words_up_to n f (λ _. 0) ≡ 0
none_up_to zero f h = words_zero f (λ _. 0)
none_up_to (suc n) f h =
    words_suc n f (λ _. 0) ∙ ap₂ (λ a x. a + x) (none_up_to n f (λ k le. h k (omega (arith, le)))) (top_zero (suc n + 1) (f (suc n)) (h (suc n) (omega arith)))

other : (k s : ℕ) → k < s → one_at k s ≡ 0
other k s less = one_other k s (λ e. absurd (omega (arith, e, less)))

cell_words_by : (n s : ℕ) → 0 < s → s ≤ suc n → (s ≤ n → words_up_to n (λ k. one_at k s) (λ _. 0) ≡ s + 1) → (b : Bool) → nat_eq (suc n) s ≡ b → words_up_to (suc n) (λ k. one_at k s) (λ _. 0) ≡ s + 1
cell_words_by n s some le h true t =
    let e : suc n ≡ s = eqb-true (suc n) s t in
    let z = none_up_to n (λ k. one_at k s) (λ k low. other k s (omega (arith, e, low))) in
    let o : one_at (suc n) s ≡ 1 = ap (λ (b : Bool). if b then 1 else 0) t in
    let w : words_up_to (suc n) (λ k. one_at k s) (λ _. 0) ≡ 0 + (suc n + 1) = words_suc n (λ k. one_at k s) (λ _. 0) ∙ ap₂ (λ a x. a + x) z (top_one (suc n + 1) (one_at (suc n) s) o) in
    omega (arith, w, e)
cell_words_by n s some le h false t =
    let u : suc n ≡ s → ⊥ = eqb-false (suc n) s t in
    let o : one_at (suc n) s ≡ 0 = ap (λ (b : Bool). if b then 1 else 0) t in
    let low : s ≤ n = lower n s le u in
    words_suc n (λ k. one_at k s) (λ _. 0) ∙ ap₂ (λ a x. a + x) (h low) (top_zero (suc n + 1) (one_at (suc n) s) o) ∙ (let z : s + 1 + 0 ≡ s + 1 = omega arith in z)
  where
    lower : (n s : ℕ) → s ≤ suc n → (suc n ≡ s → ⊥) → s ≤ n
    lower n s le u = grind (arith, le, u)

one_cell_words : (n s : ℕ) → 0 < s → s ≤ n → words_up_to n (λ k. one_at k s) (λ _. 0) ≡ s + 1
one_cell_words zero s some le = absurd (omega (arith, some, le))
one_cell_words (suc n) s some le = cell_words_by n s some le (λ low. one_cell_words n s some low) (nat_eq (suc n) s) refl

-- ---- values of the types of a table

node_words : (m : ℕ) → m ≤ 16 → words_up_to 16 (λ k. one_of_size k m) (λ _. 0) ≡ words_of_node m
node_words zero le = none_up_to 16 (λ k. one_of_size k 0) (λ k low. refl)
node_words (suc m) le = one_cell_words 16 (suc m) (omega arith) le ∙ (let z : suc m + 1 ≡ suc (suc m) = omega arith in z)

count_types : (tb : Table) (ts : List ℕ) (vs : Values) → HaveTypes tb ts vs → count_of vs ≡ length ts
count_types tb [] End h = refl
count_types tb [] (More v vs) h = absurd h
count_types tb (t ∷ ts) End h = absurd h
count_types tb (t ∷ ts) (More v vs) h = ap suc (count_types tb ts vs h.1)

module _ (tb : Table) (sound : IsSoundTable tb) where
  mutual
    value_words : (t : ℕ) (v : Value) → HasType tb t v → words_up_to 16 (λ k. cells k v) (λ _. 0) ≡ words_needed v
    value_words zero (Int i) h = none_up_to 16 (λ k. 0) (λ k low. refl)
    value_words zero (Node c vs) h = absurd h
    value_words (suc t) (Int i) h = absurd h
    value_words (suc t) (Node c vs) h =
        let number = count_types tb h.0.fields vs h.2 in
        let few = sound.narrow t c h.0 h.1 in
        let a = sum_join 16 (λ k. one_of_size k (count_of vs)) (λ k. cells_of_all k vs) in
        let b = node_words (count_of vs) (omega (arith, number, few)) in
        let d = all_words h.0.fields vs h.2 in
        omega (arith, a, b, d)

    all_words : (ts : List ℕ) (vs : Values) → HaveTypes tb ts vs → words_up_to 16 (λ k. cells_of_all k vs) (λ _. 0) ≡ words_needed_by_all vs
    all_words [] End h = none_up_to 16 (λ k. 0) (λ k low. refl)
    all_words [] (More v vs) h = absurd h
    all_words (t ∷ ts) End h = absurd h
    all_words (t ∷ ts) (More v vs) h =
        let a = sum_join 16 (λ k. cells k v) (λ k. cells_of_all k vs) in
        let b = value_words t v h.0 in
        let d = all_words ts vs h.1 in
        omega (arith, a, b, d)

-- ---- credits

credits_words : (ks : List ℕ) → AreSizes ks → words_up_to 16 (λ k. count k ks) (λ _. 0) ≡ words_of_credits ks
credits_words [] h = none_up_to 16 (λ k. 0) (λ k low. refl)
credits_words (s ∷ ks) h =
    let a = sum_join 16 (λ k. one_at k s) (λ k. count k ks) in
    let b = one_cell_words 16 s h.0 h.1 in
    let d = credits_words ks h.2 in
    omega (arith, a, b, d)

-- ---- a new store

as_wanted : (n free : ℕ) → free ≡ 0 → n - free ≡ n - 0
as_wanted n free e = omega (arith, e)

pub needed_words : (tb : Table) (ts : List ℕ) (first : Loading) (credits : List ℕ) (vs : Values) → IsSoundTable tb → HaveTypes tb ts vs → AreSizes credits → first.cells ≡ [] → first.released ≡ [] → needed first credits vs ≡ words_for vs credits
needed_words tb ts first credits vs sound typed sizes cells released =
    let e = words_same 16 (wanted credits vs) (wanted credits vs) (λ _. 0) (free_in first) (λ k le. as_wanted (wanted credits vs k) (free_in first k) (no_free first.cells first.released k cells released)) in
    let a = sum_join 16 (λ k. cells_of_all k vs) (λ k. count k credits) in
    let b = all_words tb sound ts vs typed in
    let d = credits_words credits sizes in
    e ∙ a ∙ ap₂ (λ x y. x + y) b d
