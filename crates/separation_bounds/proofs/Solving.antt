-- Where all ways are bounded there are least numbers: of each one the least that no way exceeds.
-- A way isn't a test, so this is said with two nots.
use Rattle.std.proofs.Common.{◌≡◌, ℕ, zero, suc, ◌+◌, ◌-◌, ◌<◌, ◌≤◌, Bool, refl, sym, ap, ◌∙◌, subst, arith, inl, inr, ◌==◌, if◌then◌else◌}
use Rattle.separation.specs.call_groups.Stacks.{charge, Solves, LeastSolution}
use Rattle.separation_bounds.proofs.Sums.{sum_of, everything, less_or_not, same_or_not, same_number, other_number}
use Rattle.separation_bounds.proofs.Bounds.{Holds, AreTame, bounded}

-- it isn't so that it can't be
abbrev pub Can : Type 0 → Type 0
Can A = (A → ⊥) → ⊥

-- ---- the least number with a property

pub record IsLeast (P : ℕ → Type 0) (m : ℕ) : Type 0 where
  pub has : P m
  pub least : (k : ℕ) → P k → m ≤ k

none_below : (P : ℕ → Type 0) → ((m : ℕ) → IsLeast P m → ⊥) → (n k : ℕ) → k < n → P k → ⊥
none_below P none zero k l p = absurd (omega (arith, l))
none_below P none (suc n) k l p = none k (record {
  has = p;
  least = λ j q. elim (less_or_not j k) as (λ v. k ≤ j) [ inl less ↦ absurd (none_below P none n j (omega (arith, l, less)) q) | inr enough ↦ enough ];
})

pub least_one : (P : ℕ → Type 0) (w : ℕ) → P w → Can ((m : ℕ) × IsLeast P m)
least_one P w p none = none_below P (λ m l. none (m, l)) (suc w) w (omega arith) p

module _ (calls : ℕ → ℕ → Bool → Type 0) (base own : ℕ → ℕ) (size : ℕ) (tame : AreTame calls base size) where
  -- no way from a holds more
  abbrev IsAbove : ℕ → ℕ → Type 0
  IsAbove a m = (n w : ℕ) → Holds calls base own n a w → w ≤ m

  least_of : (a : ℕ) → Can ((m : ℕ) × IsLeast (IsAbove a) m)
  least_of a = least_one (IsAbove a) (sum_of size everything base + sum_of size everything own) (λ n w h. bounded calls base own size tame n a w h)

  -- ---- for all of them

  -- the numbers below n are the least, and the others are 0
  record AreLeast (n : ℕ) (number : ℕ → ℕ) : Type 0 where
    below : (a : ℕ) → a < n → IsLeast (IsAbove a) (number a)
    above : (a : ℕ) → n ≤ a → number a ≡ 0

  abbrev with_one : ℕ → ℕ → (ℕ → ℕ) → ℕ → ℕ
  with_one x m number a = if a == x then m else number a

  here : (x m : ℕ) (number : ℕ → ℕ) → with_one x m number x ≡ m
  here x m number = ap (λ b. if b then m else number x) (same_number x)

  elsewhere : (x m a : ℕ) (number : ℕ → ℕ) → (a ≡ x → ⊥) → with_one x m number a ≡ number a
  elsewhere x m a number off = ap (λ b. if b then m else number a) (other_number x a off)

  one_more : (n m : ℕ) (number : ℕ → ℕ) → AreLeast n number → IsLeast (IsAbove n) m → AreLeast (suc n) (with_one n m number)
  one_more n m number h l = record {
    below = λ a less. elim (same_or_not a n) as (λ v. IsLeast (IsAbove a) (with_one n m number a)) [
      | inl e ↦ subst (λ a. IsLeast (IsAbove a) (with_one n m number a)) (sym e) (subst (IsLeast (IsAbove n)) (sym (here n m number)) l)
      | inr off ↦ subst (IsLeast (IsAbove a)) (sym (elsewhere n m a number off)) (h.below a (under n a less off))
    ];
    above = λ a more. elsewhere n m a number (λ e. absurd (omega (arith, more, e))) ∙ h.above a (omega (arith, more));
  }
    where
      under : (n a : ℕ) → a < suc n → (a ≡ n → ⊥) → a < n
      under n a less off = elim (less_or_not a n) as (λ v. a < n) [ inl l ↦ l | inr g ↦ absurd (off (omega (arith, less, g))) ]

  all_least : (n : ℕ) → Can ((number : ℕ → ℕ) × AreLeast n number)
  all_least zero none = none ((λ a. 0), record { below = λ a less. absurd (omega (arith, less)); above = λ a more. refl })
  all_least (suc n) none = all_least n (λ x. least_of n (λ l. none (with_one n l.0 x.0, one_more n l.0 x.0 x.1 l.1)))

  -- ---- they solve what is required

  -- one that is no function's holds nothing
  nothing : (a n w : ℕ) → size ≤ a → Holds calls base own n a w → w ≡ 0
  nothing a zero w out h = h ∙ tame.outside a out
  nothing a (suc n) w out (g, k, c, v, i, e) = let in_size = tame.within a g k c in absurd (omega (arith, in_size, out))

  least_at : (number : ℕ → ℕ) → AreLeast size number → (a : ℕ) → IsLeast (IsAbove a) (number a)
  least_at number h a = elim (less_or_not a size) as (λ v. IsLeast (IsAbove a) (number a)) [
    | inl l ↦ h.below a l
    | inr out ↦
        let z = h.above a out in
        record { has = λ n w i. let y = nothing a n w out i in omega (arith, y, z); least = λ k p. omega (arith, z) }
  ]

  solves : (number : ℕ → ℕ) → AreLeast size number → Solves calls base own number
  solves number h = record {
    base_in = λ a. (least_at number h a).has 0 (base a) refl;
    calls_in = λ a g k c.
        let some = (least_at number h a).has 1 (base g + charge (own a) k) (g, k, c, base g, refl, refl) in
        let rest = (least_at number h g).least (number a - charge (own a) k) (λ n w i.
        let more = (least_at number h a).has (suc n) (w + charge (own a) k) (g, k, c, w, i, refl) in
        omega (arith, more)) in
        omega (arith, some, rest);
  }

  -- a solution is above all ways
  above_ways : (other : ℕ → ℕ) → Solves calls base own other → (n a w : ℕ) → Holds calls base own n a w → w ≤ other a
  above_ways other s zero a w h = let b = s.base_in a in omega (arith, b, h)
  above_ways other s (suc n) a w (g, k, c, v, i, e) =
      let rest = above_ways other s n g v i in
      let call = s.calls_in a g k c in
      omega (arith, rest, call, e)

  pub solved : Can ((number : ℕ → ℕ) × LeastSolution calls base own number)
  solved none = all_least size (λ x. none (x.0, (solves x.0 x.1, λ other s a. (least_at x.0 x.1 a).least (other a) (λ n w i. above_ways other s n a w i))))
