-- Places of a store of which none occurs twice are no more than the places of the store.
use Rattle.std.proofs.Common.{◌≡◌, inl, inr, ℕ, zero, suc, ◌+◌, ◌<◌, ◌≤◌, List, [], ◌∷◌, length, refl, sym, arith}
use Rattle.tree_refinement.specs.fip_language.Store.{one_at, count}
use Rattle.tree_refinement.proofs.separation_kinds.Agree.{one_here, one_apart}
use Rattle.tree_refinement.proofs.separation.Stores.{same_place}

-- the sum of f over the numbers below n
abbrev total : ℕ → (ℕ → ℕ) → ℕ
total zero f = 0
total (suc n) f = total n f + f n

total_add : (n : ℕ) (f g : ℕ → ℕ) → total n (λ q. f q + g q) ≡ total n f + total n g
total_add zero f g = refl
total_add (suc n) f g = let r = total_add n f g in omega (arith, r)

total_none : (n p : ℕ) → n ≤ p → total n (λ q. one_at q p) ≡ 0
total_none zero p le = refl
total_none (suc n) p le =
    let r = total_none n p (omega (arith, le)) in
    let z = one_apart n p (λ e. absurd (let y : ⊥ = omega (arith, e, le) in y)) in
    omega (arith, r, z)

total_one : (n p : ℕ) → p < n → total n (λ q. one_at q p) ≡ 1
total_one zero p less = absurd (let z : ⊥ = omega (arith, less) in z)
total_one (suc n) p less = elim (same_place p n) as (λ v. total (suc n) (λ q. one_at q p) ≡ 1) [
  | inl e ↦
      let r = total_none n p (omega (arith, e)) in
      let z = one_here n p (sym e) in
      omega (arith, r, z)
  | inr off ↦
      let r = total_one n p (below off) in
      let z = one_apart n p (λ e. off (sym e)) in
      omega (arith, r, z)
]
  where
    below : (p ≡ n → ⊥) → p < n
    below off = grind (arith, off, less)

total_nothing : (n : ℕ) → total n (λ q. 0) ≡ 0
total_nothing zero = refl
total_nothing (suc n) = let r = total_nothing n in omega (arith, r)

total_count : (n : ℕ) (ps : List ℕ) → ((q : ℕ) → 0 < count q ps → q < n) → total n (λ q. count q ps) ≡ length ps
total_count n [] h = total_nothing n
total_count n (p ∷ ps) h =
    let here : one_at p p ≡ 1 = one_here p p refl in
    let a = total_add n (λ q. one_at q p) (λ q. count q ps) in
    let b = total_one n p (h p (omega (arith, here))) in
    let r = total_count n ps (λ q some. h q (omega (arith, some))) in
    omega (arith, a, b, r)

total_few : (n : ℕ) (f : ℕ → ℕ) → ((q : ℕ) → f q ≤ 1) → total n f ≤ n
total_few zero f h = omega arith
total_few (suc n) f h = let r = total_few n f h in let z = h n in omega (arith, r, z)

pub few_places : (n : ℕ) (ps : List ℕ) → ((q : ℕ) → count q ps ≤ 1) → ((q : ℕ) → 0 < count q ps → q < n) → length ps ≤ n
few_places n ps once within =
    let a = total_count n ps within in
    let b = total_few n (λ q. count q ps) once in
    omega (arith, a, b)
