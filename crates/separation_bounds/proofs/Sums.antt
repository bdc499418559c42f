-- Sums over the numbers below one, of those that are in a set, and of all.
use Rattle.std.proofs.Common.{◌≡◌, ℕ, zero, suc, ◌+◌, ◌<◌, ◌≤◌, Bool, true, false, refl, sym, ap, ◌∙◌, arith, inl, inr, ◌⊎◌, ◌==◌, if◌then◌else◌}
use Rattle.std.proofs.lemmas.Bool.Decides.{nat_tests}
pub use Rattle.separation.proofs.separation_kinds.machine_semantics.cell_code.fip_base.fip_language.Facts.{equal_itself as same_number, less_or_not, same_or_apart as same_or_not}

-- ---- tests

-- ---- sums

abbrev pub one_if : Bool → ℕ → ℕ
one_if true m = m
one_if false m = 0

-- over the numbers below n that are in the set
abbrev pub sum_of : ℕ → (ℕ → Bool) → (ℕ → ℕ) → ℕ
sum_of zero set own = 0
sum_of (suc n) set own = sum_of n set own + one_if (set n) (own n)

-- all but x
abbrev pub but : ℕ → (ℕ → Bool) → ℕ → Bool
but x set y = if y == x then false else set y

pub other_number : (x y : ℕ) → (y ≡ x → ⊥) → (y == x) ≡ false
other_number x y off = by (y == x) refl
  where
    by : (b : Bool) → (y == x) ≡ b → b ≡ false
    by true e = absurd (off (equal e))
      where
        equal : (y == x) ≡ true → y ≡ x
        equal e = grind (arith, nat_tests)
    by false e = refl

left_out : (x : ℕ) (set : ℕ → Bool) → but x set x ≡ false
left_out x set = ap (λ b. if b then false else set x) (same_number x)

pub stays_in : (x y : ℕ) (set : ℕ → Bool) → (y ≡ x → ⊥) → but x set y ≡ set y
stays_in x y set off = ap (λ b. if b then false else set y) (other_number x y off)

-- below x nothing is left out
same_below : (n x : ℕ) (set : ℕ → Bool) (own : ℕ → ℕ) → n ≤ x → sum_of n (but x set) own ≡ sum_of n set own
same_below zero x set own h = refl
same_below (suc n) x set own h =
    let rest = same_below n x set own (omega (arith, h)) in
    let here = ap (λ b. one_if b (own n)) (stays_in x n set (λ e. absurd (omega (arith, h, e)))) in
    omega (arith, rest, here)

-- what is left out was counted once
pub without : (n x : ℕ) (set : ℕ → Bool) (own : ℕ → ℕ) → x < n → set x ≡ true → sum_of n (but x set) own + own x ≡ sum_of n set own
without zero x set own h e = absurd (omega (arith, h))
without (suc n) x set own h e = elim (same_or_not x n) as (λ v. sum_of (suc n) (but x set) own + own x ≡ sum_of (suc n) set own) [
  | inl z ↦
      let rest = same_below n x set own (omega (arith, z)) in
      let gone : one_if (but x set n) (own n) ≡ 0 = ap (λ m. one_if (but x set m) (own m)) (sym z) ∙ ap (λ b. one_if b (own x)) (left_out x set) in
      let here : one_if (set n) (own n) ≡ own x = ap (λ m. one_if (set m) (own m)) (sym z) ∙ ap (λ b. one_if b (own x)) e in
      omega (arith, rest, gone, here)
  | inr off ↦
      let rest = without n x set own (let z : x < n = below n x h off in z) e in
      let here = ap (λ b. one_if b (own n)) (stays_in x n set (λ z. off (sym z))) in
      omega (arith, rest, here)
]
  where
    below : (n x : ℕ) → x < suc n → (x ≡ n → ⊥) → x < n
    below n x h off = elim (less_or_not x n) as (λ v. x < n) [ inl l ↦ l | inr g ↦ absurd (off (omega (arith, h, g))) ]

abbrev pub everything : ℕ → Bool
everything x = true

-- each is at most the sum of all
pub in_sum : (n x : ℕ) (own : ℕ → ℕ) → x < n → own x ≤ sum_of n everything own
in_sum zero x own h = absurd (omega (arith, h))
in_sum (suc n) x own h = elim (same_or_not x n) as (λ v. own x ≤ sum_of (suc n) everything own) [
  | inl z ↦ let same = ap own z in omega (arith, same)
  | inr off ↦ elim (less_or_not x n) as (λ v. own x ≤ sum_of (suc n) everything own) [
    | inl l ↦ let rest = in_sum n x own l in omega (arith, rest)
    | inr g ↦ absurd (off (omega (arith, h, g)))
  ]
]
