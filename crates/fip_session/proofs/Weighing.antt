-- What the cells of a call take of the store.
-- Idea: a sum over the sizes of cells of their words, as the store's users count it, is the one that the replies speak of.
use Rattle.std.proofs.Common.{◌≡◌, ◌∙◌, ◌≤◌, ◌<◌, ◌+◌, ◌-◌, ◌*◌, ℕ, zero, suc, Bool, true, false, List, [], ◌∷◌, length, refl, ap, arith, if◌then◌else◌}
use Rattle.std.specs.Prelude.{◌^◌, nat_eq}
use Rattle.std.proofs.Math.Nat.{mul-suc, mul-zero}
use Rattle.fip_language.specs.Store.{count, one_at}
use Rattle.fip_language.specs.declared.limits.TheConstants.{MOST_FIELDS}
use Rattle.session_lines.specs.session_semantics.Talk.{credits_of, over_sizes}
use Rattle.value_text.specs.Counting.{count_at}
use Rattle.value_text.specs.Loaded.{words_up_to}
use Rattle.value_text.specs.declared.counts.Counts.{Counts}
use Rattle.value_text.proofs.Taken.{words_zero, words_suc}
use Rattle.fip_session.specs.Planned.{IsWeighed}
use Rattle.fip_language.proofs.Facts.{times_le as mul_le}
use Rattle.value_text.proofs.Credits.{count_most as count_few}

pub credits_are : (k : ℕ) (cs : List ℕ) → credits_of k cs ≡ count k cs
credits_are k [] = refl
credits_are k (c ∷ cs) = ap (λ n. one_at k c + n) (credits_are k cs)

one_few : (k c : ℕ) → one_at k c ≤ 1
one_few k c = by (nat_eq k c)
  where
    by : (b : Bool) → (if b then 1 else 0) ≤ 1
    by true = omega arith
    by false = omega arith

mul_turned : (a b : ℕ) → a * b ≡ b * a
mul_turned zero zero = refl
mul_turned zero (suc b) = (let r = mul_turned zero b in let p = mul-suc zero b in let q = mul-zero (suc b) in omega (arith, r, p, q))
mul_turned (suc a) zero = (let r = mul_turned a zero in let p = mul-suc zero a in let q = mul-zero (suc a) in omega (arith, r, p, q))
mul_turned (suc a) (suc b) =
    let p = mul-suc (suc a) b in
    let q = mul-suc (suc b) a in
    let r = mul_turned (suc a) b in
    let s = mul_turned a (suc b) in
    let t = mul_turned a b in
    let u = mul-suc b a in
    let v = mul-suc a b in
    omega (arith, p, q, r, s, t, u, v)

-- the words of few cells are few
pub words_few : (n : ℕ) (have : ℕ → ℕ) → n ≤ 16 → ((k : ℕ) → k ≤ n → have k ≤ 2 ^ 33) → words_up_to n have (λ _. 0) ≤ 146028888064 * n
words_few zero have le h = (let z = words_zero have (λ _. 0) in omega (arith, z))
words_few (suc n) have le h =
    let r = words_few n have (omega (arith, le)) (λ k less. h k (omega (arith, less))) in
    let s = words_suc n have (λ _. 0) in
    let m = mul_le (suc n + 1) 17 (have (suc n) - 0) (omega (arith, le)) in
    let f = h (suc n) (omega arith) in
    omega (arith, r, s, m, f)

pub over_is : (n : ℕ) (have free : ℕ → ℕ) → words_up_to n have free ≡ over_sizes n (λ k. (have k - free k) * suc k)
over_is zero have free = words_zero have free
over_is (suc n) have free =
    let r = over_is n have free in
    let s = words_suc n have free in
    let t = mul_turned (suc n + 1) (have (suc n) - free (suc n)) in
    let e : (have (suc n) - free (suc n)) * (suc n + 1) ≡ (have (suc n) - free (suc n)) * suc (suc n) = ap (λ m. (have (suc n) - free (suc n)) * m) (let z : suc n + 1 ≡ suc (suc n) = omega arith in z) in
    omega (arith, r, s, t, e)

over_same : (n : ℕ) (f g : ℕ → ℕ) → ((k : ℕ) → k ≤ n → f k ≡ g k) → over_sizes n f ≡ over_sizes n g
over_same zero f g h = refl
over_same (suc n) f g h =
    let r = over_same n f g (λ k le. h k (omega (arith, le))) in
    let e = h (suc n) (omega arith) in
    omega (arith, r, e)

module _ (first all : Counts) (fresh free : ℕ → ℕ) (credits : List ℕ) (weighed : IsWeighed first fresh) (few : length credits ≤ 16) where
  pub room : (k : ℕ) → k ≤ MOST_FIELDS → count_at first k + length credits < 2 ^ 64
  room k le = (let w = weighed k le in let a = w.0 in let b = w.1 in omega (arith, a, b, few))

  module _ (added : (k : ℕ) → k ≤ MOST_FIELDS → count_at all k ≡ count_at first k + count k credits) where
    pub fits : words_up_to MOST_FIELDS (count_at all) (λ _. 0) < 2 ^ 64
    fits =
        let f = words_few 16 (count_at all) (omega arith) (λ k le. (
        let w = weighed k le in
        let a = w.0 in
        let b = w.1 in
        let c = added k le in
        let d = count_few k credits in
        omega (arith, a, b, c, d, few)
        )) in
        omega (arith, f)

    pub words_are : words_up_to MOST_FIELDS (count_at all) free ≡ over_sizes MOST_FIELDS (λ k. (fresh k + credits_of k credits - free k) * suc k)
    words_are = over_is MOST_FIELDS (count_at all) free ∙ over_same MOST_FIELDS (λ k. (count_at all k - free k) * suc k) (λ k. (fresh k + credits_of k credits - free k) * suc k) (λ k le.
        ap (λ n. (n - free k) * suc k) (let w = (weighed k le).0 in let a = added k le in let c = credits_are k credits in let z : count_at all k ≡ fresh k + credits_of k credits = omega (arith, w, a, c) in z))
