-- A list that rises is its other order sorted.
use Rattle.std.proofs.Common.{◌≡◌, ℕ, suc, ◌<◌, ◌≤◌, ◌+◌, ◌==◌, ◌⊎◌, inl, inr, refl, sym, ap, ap₂, ◌∙◌, List, [], ◌∷◌, length, get_or, nat_lt, Bool, true, false, if◌then◌else◌, arith}
use Rattle.std.specs.List.{sum_by}
use Rattle.std.specs.List.Sorted.{IsPermutation, IsSorted}
use Rattle.std.specs.Ordering.{nat_cmp}
use Rattle.std.proofs.lemmas.Bool.{eq-eqb, ne_eqb, ltb-true, ltb-false, cases_order}
use Rattle.std.proofs.lemmas.List.Sorted.{IsNonDecreasingBy-from_sort, sum_by-IsPermutation}
use Rattle.std.proofs.lemmas.List.Sums.{sum_by-cons}
use Rattle.derivation_walk.specs.Walked.{insert, sorted}

-- all from m on, rising
abbrev From : ℕ → List ℕ → Type 0
From m [] = Unit {0}
From m (x ∷ xs) = (m ≤ x) × From x xs

from_below : (m n : ℕ) (xs : List ℕ) → n ≤ m → From m xs → From n xs
from_below m n [] l h = tt
from_below m n (x ∷ xs) l h = let a = h.0 in (omega (arith, a, l), h.1)

one : ℕ → ℕ → ℕ
one k x = if x == k then 1 else 0

abbrev how_often : ℕ → List ℕ → ℕ
how_often k [] = 0
how_often k (x ∷ xs) = one k x + how_often k xs

one_same : (k x : ℕ) → x ≡ k → one k x ≡ 1
unfolding one
one_same k x e = ap (λ b. if b then 1 else 0) (eq-eqb x k e)

one_other : (k x : ℕ) → (x ≡ k → ⊥) → one k x ≡ 0
unfolding one
one_other k x e = ap (λ b. if b then 1 else 0) (ne_eqb x k e)

never : (m k : ℕ) (xs : List ℕ) → From m xs → k < m → how_often k xs ≡ 0
never m k [] h l = refl
never m k (x ∷ xs) h l =
    let a = h.0 in
    let e = one_other k x (λ s. absurd (omega (arith, s, a, l))) in
    let r = never x k xs h.1 (omega (arith, a, l)) in
    omega (arith, e, r)

-- ---- sorting

insert_from : (m x : ℕ) (ys : List ℕ) → From m ys → m ≤ x → From m (insert x ys)
insert_from m x [] h l = (l, tt)
insert_from m x (y ∷ ys) h l = rest (nat_lt y x) refl (λ k. insert_from y x ys h.1 k)
  where
    rest : (b : Bool) → nat_lt y x ≡ b → (y ≤ x → From y (insert x ys)) → From m (if b then y ∷ insert x ys else x ∷ y ∷ ys)
    rest true e f = let k = ltb-true y x e in (h.0, f (omega (arith, k)))
    rest false e f = (l, (ltb-false y x e, h.1))

sorted_from : (xs : List ℕ) → From 0 (sorted xs)
sorted_from [] = tt
sorted_from (x ∷ xs) = insert_from 0 x (sorted xs) (sorted_from xs) (omega arith)

insert_often : (k x : ℕ) (ys : List ℕ) → how_often k (insert x ys) ≡ one k x + how_often k ys
insert_often k x [] = refl
insert_often k x (y ∷ ys) = by (nat_lt y x) (insert_often k x ys)
  where
    by : (b : Bool) → how_often k (insert x ys) ≡ one k x + how_often k ys → how_often k (if b then y ∷ insert x ys else x ∷ y ∷ ys) ≡ one k x + (one k y + how_often k ys)
    by true r = omega (arith, r)
    by false r = refl

sorted_often : (k : ℕ) (xs : List ℕ) → how_often k (sorted xs) ≡ how_often k xs
sorted_often k [] = refl
sorted_often k (x ∷ xs) = insert_often k x (sorted xs) ∙ ap (λ n. one k x + n) (sorted_often k xs)

-- ---- lists that rise, with the same numbers

first_same : (x y : ℕ) (xs ys : List ℕ) → From x xs → From y ys → ((k : ℕ) → how_often k (x ∷ xs) ≡ how_often k (y ∷ ys)) → x ≡ y
first_same x y xs ys h g e = by (cases_order x y)
  where
    by : (x ≡ y) ⊎ ((x < y) ⊎ (y < x)) → x ≡ y
    by (inl s) = s
    by (inr (inl l)) =
        let a = one_same x x refl in
        let b = one_other x y (λ s. absurd (omega (arith, s, l))) in
        let c = never y x ys g l in
        let d = e x in
        absurd (omega (arith, a, b, c, d))
    by (inr (inr l)) =
        let a = one_same y y refl in
        let b = one_other y x (λ s. absurd (omega (arith, s, l))) in
        let c = never x y xs h l in
        let d = e y in
        absurd (omega (arith, a, b, c, d))

same_lists : (m n : ℕ) (xs ys : List ℕ) → From m xs → From n ys → ((k : ℕ) → how_often k xs ≡ how_often k ys) → xs ≡ ys
same_lists m n [] [] h g e = refl
same_lists m n [] (y ∷ ys) h g e = let a = one_same y y refl in let d = e y in absurd (omega (arith, a, d))
same_lists m n (x ∷ xs) [] h g e = let a = one_same x x refl in let d = e x in absurd (omega (arith, a, d))
same_lists m n (x ∷ xs) (y ∷ ys) h g e =
    let s = first_same x y xs ys h.1 g.1 e in
    ap₂ (λ z zs. z ∷ zs) s (same_lists x y xs ys h.1 g.1 (λ k. let d = e k in let f = ap (one k) s in omega (arith, d, f)))

-- ---- what a sort gives

from_order : (m : ℕ) (xs : List ℕ) → ((i j : ℕ) → i ≤ j → j < length xs → get_or xs i 0 ≤ get_or xs j 0) → (0 < length xs → m ≤ get_or xs 0 0) → From m xs
from_order m [] h l = tt
from_order m (x ∷ xs) h l =
    (l (omega arith), from_order x xs (λ i j p q. h (suc i) (suc j) (omega arith) (omega arith)) (λ p. h 0 1 (omega arith) (omega arith)))

often_sum : (k : ℕ) (xs : List ℕ) → sum_by (one k) xs ≡ how_often k xs
often_sum k [] = refl
often_sum k (x ∷ xs) = sum_by-cons (one k) x xs ∙ ap (λ n. one k x + n) (often_sum k xs)

pub sorted_is : (xs ys : List ℕ) → IsPermutation xs ys → IsSorted nat_cmp ys → ys ≡ sorted xs
sorted_is xs ys p s =
    let u = IsNonDecreasingBy-from_sort (λ x. x) ys s in
    same_lists 0 0 ys (sorted xs) (from_order 0 ys (λ i j l m. u i j 0 l m) (λ l. omega arith)) (sorted_from xs)
    (λ k. sym (often_sum k ys) ∙ sum_by-IsPermutation (one k) xs ys p ∙ often_sum k xs ∙ sym (sorted_often k xs))
