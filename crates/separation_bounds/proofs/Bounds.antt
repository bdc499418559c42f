-- In a graph in which nothing comes back to one that waits, what runs of one hold is bounded: on a way of calls each one
-- waits once at the most.
use Rattle.std.proofs.Common.{◌≡◌, ℕ, zero, suc, ◌+◌, ◌<◌, ◌≤◌, Bool, true, false, inl, inr, refl, ◌∙◌, subst, arith}
use Rattle.separation.specs.call_groups.Stacks.{charge}
use Rattle.separation_bounds.proofs.Sums.{sum_of, but, stays_in, without, everything, in_sum, less_or_not}

-- n calls lead from a to b
abbrev pub Way : (ℕ → ℕ → Bool → Type 0) → ℕ → ℕ → ℕ → Type 0
Way calls zero a b = a ≡ b
Way calls (suc n) a b = (g : ℕ) × (k : Bool) × calls a g k × Way calls n g b

-- on some way of n calls from a so much is held
abbrev pub Holds : (ℕ → ℕ → Bool → Type 0) → (ℕ → ℕ) → (ℕ → ℕ) → ℕ → ℕ → ℕ → Type 0
Holds calls base own zero a w = w ≡ base a
Holds calls base own (suc n) a w = (g : ℕ) × (k : Bool) × calls a g k × (v : ℕ) × Holds calls base own n g v × (w ≡ v + charge (own a) k)

-- what is required of calls
pub record AreTame (calls : ℕ → ℕ → Bool → Type 0) (base : ℕ → ℕ) (size : ℕ) : Type 0 where
  pub within : (a b : ℕ) (k : Bool) → calls a b k → a < size
  pub never_back : (a b n : ℕ) → calls a b true → Way calls n b a → ⊥
  pub outside : (a : ℕ) → size ≤ a → base a ≡ 0

module _ (calls : ℕ → ℕ → Bool → Type 0) (base own : ℕ → ℕ) (size : ℕ) (tame : AreTame calls base size) where
  -- all that wait and are reached from a are in the set
  abbrev HasWaiting : ℕ → (ℕ → Bool) → Type 0
  HasWaiting a set = (n x g : ℕ) → Way calls n a x → calls x g true → set x ≡ true

  base_in : (a : ℕ) → base a ≤ sum_of size everything base
  base_in a = elim (less_or_not a size) as (λ v. base a ≤ sum_of size everything base) [
    | inl l ↦ in_sum size a base l
    | inr g ↦ let z = tame.outside a g in omega (arith, z)
  ]

  held_by : (n a w : ℕ) (set : ℕ → Bool) → HasWaiting a set → Holds calls base own n a w → w ≤ sum_of size everything base + sum_of size set own
  held_by zero a w set h e = let b = base_in a in omega (arith, b, e)
  held_by (suc n) a w set h (g, true, c, v, i, e) =
      let in_set : set a ≡ true = h 0 a g refl c in
      let less = held_by n g v (but a set) (λ m x y way waits. stays_in a x set (λ z. tame.never_back a g m c (subst (λ b. Way calls m g b) z way)) ∙ h (suc m) x y (g, true, c, way) waits) i in
      let one = without size a set own (tame.within a g true c) in_set in
      omega (arith, less, one, e)
  held_by (suc n) a w set h (g, false, c, v, i, e) =
      let less = held_by n g v set (λ m x y way waits. h (suc m) x y (g, false, c, way) waits) i in
      omega (arith, less, e)

  -- a bound for all ways
  pub bounded : (n a w : ℕ) → Holds calls base own n a w → w ≤ sum_of size everything base + sum_of size everything own
  bounded n a w h = held_by n a w everything (λ m x g way waits. refl) h
