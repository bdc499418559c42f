-- The cells of credits are counted one after another.
use Rattle.std.proofs.Common.{◌≡◌, ◌≢◌, ◌∙◌, ◌≤◌, ◌<◌, ◌+◌, ◌-◌, ◌^◌, ℕ, zero, suc, Bool, true, false, List, [], ◌∷◌, length, take, get_or, refl, sym, ap, subst, arith}
use Rattle.std.specs.Prelude.{nat_eq, slice_index_or, if◌then◌else◌}
use Rattle.std.proofs.lemmas.Bool.{eqb-true, eqb-false}
use Rattle.fip_language.specs.Store.{count, one_at}
use Rattle.value_text.specs.Loaded.{AreSizes, AreCredits}
use Rattle.value_text.specs.declared.counts.Counts.{Counts}
use Rattle.session_values.specs.Read.{Adds}
use Rattle.session_values.proofs.OneValue.{adds_none, adds_both}
use Rattle.fip_language.proofs.Facts.{take_whole}
use Rattle.task_lines.proofs.CellsMade.{sizes_at}

abbrev Adding : Counts → Counts → ℕ → Type 0
Adding old new s = ((0 < s → s ≤ 16 → slice_index_or old.numbers s 0 < 2 ^ 64 - 1 → slice_index_or new.numbers s 0 ≡ suc (slice_index_or old.numbers s 0))
    × ((i : ℕ) → i ≢ s → slice_index_or new.numbers i 0 ≡ slice_index_or old.numbers i 0))

one_more : (old new : Counts) (s : ℕ) → 0 < s → s ≤ 16 → Adding old new s → Adds old new (λ k. one_at k s)
one_more old new s some few h k le less = by (nat_eq k s) refl
  where
    by : (t : Bool) → nat_eq k s ≡ t → slice_index_or new.numbers k 0 ≡ slice_index_or old.numbers k 0 + one_at k s
    by true e =
        let same : k ≡ s = eqb-true k s e in
        let one : one_at k s ≡ 1 = ap (λ (t : Bool). if t then 1 else 0) e in
        let x = h.0 some few (subst (λ i. slice_index_or old.numbers i 0 < 2 ^ 64 - 1) same (omega (arith, less))) in
        let y : slice_index_or new.numbers k 0 ≡ suc (slice_index_or old.numbers k 0) = subst (λ i. slice_index_or new.numbers i 0 ≡ suc (slice_index_or old.numbers i 0)) (sym same) x in
        omega (arith, y, one)
    by false e =
        let none : one_at k s ≡ 0 = ap (λ (t : Bool). if t then 1 else 0) e in
        let x = h.1 k (eqb-false k s e) in
        omega (arith, x, none)

count_more : (k : ℕ) (ks : List ℕ) (i : ℕ) → i < length ks → count k (take (i + 1) ks) ≡ count k (take i ks) + one_at k (get_or ks i 0)
count_more k ks i lt = ap (λ n. count k (take n ks)) (let z : i + 1 ≡ suc i = omega arith in z) ∙ by k ks i lt
  where
    by : (k : ℕ) (ks : List ℕ) (i : ℕ) → i < length ks → count k (take (suc i) ks) ≡ count k (take i ks) + one_at k (get_or ks i 0)
    by k [] i lt = absurd (omega (arith, lt))
    by k (x ∷ ks) zero lt = omega arith
    by k (x ∷ ks) (suc i) lt = let h = by k ks i (omega (arith, lt)) in omega (arith, h)

pub credits_on : (first now next : Counts) (ks : List ℕ) (i s : ℕ) → i < length ks → get_or ks i 0 ≡ s → AreCredits ks → Adding now next s → Adds first now (λ k. count k (take i ks)) → Adds first next (λ k. count k (take (i + 1) ks))
credits_on first now next ks i s lt is sizes add h =
    let z = sizes_at ks i lt (sizes.sizes) in
    let more = one_more now next (get_or ks i 0) z.0 z.1 (subst (Adding now next) (sym is) add) in
    adds_both first now next (λ k. count k (take i ks)) (λ k. one_at k (get_or ks i 0)) (λ k. count k (take (i + 1) ks)) (λ k. count_more k ks i lt) h more

pub credits_end : (first now : Counts) (ks : List ℕ) (i : ℕ) → length ks ≤ i → Adds first now (λ k. count k (take i ks)) → Adds first now (λ k. count k ks)
credits_end first now ks i le h = subst (λ ls. Adds first now (λ k. count k ls)) (take_whole i ks le) h

pub credits_start : (first : Counts) (ks : List ℕ) → Adds first first (λ k. count k (take 0 ks))
credits_start first ks = adds_none first (λ k. count k (take 0 ks)) (λ k. refl)
