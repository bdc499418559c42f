-- A list that rises is what is sorted of any list with the same numbers.
use Rattle.std.proofs.Common.{◌≡◌, ℕ, zero, suc, ◌<◌, ◌≤◌, ◌+◌, ◌⊎◌, inl, inr, refl, sym, ap, ap₂, ◌∙◌, List, [], ◌∷◌, ◌++◌, nat_lt, Bool, true, false, arith}
use Rattle.std.specs.Prelude.{◌==◌, if◌then◌else◌}
use Rattle.std.proofs.lemmas.Bool.{eq-eqb, ne_eqb, ltb-true, ltb-false, cases_order}
use Rattle.derivation_making.specs.ownership_calculus.Terms.{one, given}
use Rattle.derivation_making.specs.derivation_check.Owned.{Rising}
use Rattle.derivation_walk.specs.Walked.{insert, sorted}

-- all from m on, rising
abbrev From : ℕ → List ℕ → Type 0
From m [] = Unit {0}
From m (x ∷ xs) = (m ≤ x) × From x xs

one_same : (k x : ℕ) → x ≡ k → one x k ≡ 1
one_same k x e = ap (λ b. if b then 1 else 0) (eq-eqb x k e)

one_other : (k x : ℕ) → (x ≡ k → ⊥) → one x k ≡ 0
one_other k x e = ap (λ b. if b then 1 else 0) (ne_eqb x k e)

never : (m k : ℕ) (xs : List ℕ) → From m xs → k < m → given k xs ≡ 0
never m k [] h l = refl
never m k (x ∷ xs) h l =
    let a = h.0 in
    let e = one_other k x (λ s. absurd (omega (arith, s, a, l))) in
    let r = never x k xs h.1 (omega (arith, a, l)) in
    ap₂ (λ n m. n + m) e r

insert_from : (m x : ℕ) (ys : List ℕ) → From m ys → m ≤ x → From m (insert x ys)
insert_from m x [] h l = (l, tt)
insert_from m x (y ∷ ys) h l = rest (nat_lt y x) refl (λ k. insert_from y x ys h.1 k)
  where
    rest : (b : Bool) → nat_lt y x ≡ b → (y ≤ x → From y (insert x ys)) → From m (if b then y ∷ insert x ys else x ∷ y ∷ ys)
    rest true e f = let k = ltb-true y x e in (h.0, f (omega (arith, k)))
    rest false e f = (l, (ltb-false y x e, h.1))

sorted_from : (xs : List ℕ) → From 0 (sorted xs)
sorted_from [] = tt
sorted_from (x ∷ xs) = insert_from 0 x (sorted xs) (sorted_from xs) (omega arith)

turn : (a b n : ℕ) → a + (b + n) ≡ b + (a + n)
turn a b n = omega arith

insert_often : (k x : ℕ) (ys : List ℕ) → given k (insert x ys) ≡ one x k + given k ys
insert_often k x [] = refl
insert_often k x (y ∷ ys) = by (nat_lt y x) (insert_often k x ys)
  where
    by : (b : Bool) → given k (insert x ys) ≡ one x k + given k ys → given k (if b then y ∷ insert x ys else x ∷ y ∷ ys) ≡ one x k + (one y k + given k ys)
    by true r = ap (λ n. one y k + n) r ∙ turn (one y k) (one x k) (given k ys)
    by false r = refl

sorted_often : (k : ℕ) (xs : List ℕ) → given k (sorted xs) ≡ given k xs
sorted_often k [] = refl
sorted_often k (x ∷ xs) = insert_often k x (sorted xs) ∙ ap (λ n. one x k + n) (sorted_often k xs)

first_same : (x y : ℕ) (xs ys : List ℕ) → From x xs → From y ys → ((k : ℕ) → given k (x ∷ xs) ≡ given k (y ∷ ys)) → x ≡ y
first_same x y xs ys h g e = by (cases_order x y)
  where
    apart : (a b : ℕ) (as' bs : List ℕ) → a < b → From b bs → given a (a ∷ as') ≡ given a (b ∷ bs) → ⊥
    apart a b as' bs l f d =
        let p : one a a ≡ 1 = one_same a a refl in
        let q : one b a ≡ 0 = one_other a b (λ s. absurd (omega (arith, s, l))) in
        let c = never b a bs f l in
        let z : 1 + given a as' ≡ 0 + 0 = ap (λ n. n + given a as') (sym p) ∙ d ∙ ap₂ (λ n m. n + m) q c in
        absurd (omega (arith, z))

    by : (x ≡ y) ⊎ ((x < y) ⊎ (y < x)) → x ≡ y
    by (inl s) = s
    by (inr (inl l)) = absurd (apart x y xs ys l g (e x))
    by (inr (inr l)) = absurd (apart y x ys xs l h (sym (e y)))

less_same : (a b m n : ℕ) → a ≡ b → a + m ≡ b + n → m ≡ n
less_same a b m n e f = omega (arith, e, f)

some_there : (x : ℕ) (xs : List ℕ) → given x (x ∷ xs) ≡ 0 → ⊥
some_there x xs d = let z : 1 + given x xs ≡ 0 = ap (λ n. n + given x xs) (sym (one_same x x refl)) ∙ d in absurd (omega (arith, z))

same_lists : (m n : ℕ) (xs ys : List ℕ) → From m xs → From n ys → ((k : ℕ) → given k xs ≡ given k ys) → xs ≡ ys
same_lists m n [] [] h g e = refl
same_lists m n [] (y ∷ ys) h g e = absurd (some_there y ys (sym (e y)))
same_lists m n (x ∷ xs) [] h g e = absurd (some_there x xs (e x))
same_lists m n (x ∷ xs) (y ∷ ys) h g e =
    let s = first_same x y xs ys h.1 g.1 e in
    ap₂ (λ z zs. z ∷ zs) s (same_lists x y xs ys h.1 g.1 (λ k. less_same (one x k) (one y k) (given k xs) (given k ys) (ap (λ z. one z k) s) (e k)))

from_rising : (m d : ℕ) (xs : List ℕ) → Rising m d xs → From m xs
from_rising m d [] h = tt
from_rising m d (x ∷ xs) h = (h.0, later (from_rising (x + 1) d xs h.2))
  where
    later : From (x + 1) xs → From x xs
    later f = low xs f
      where
        low : (ys : List ℕ) → From (x + 1) ys → From x ys
        low [] f = tt
        low (y ∷ ys) f = let a = f.0 in (omega (arith, a), f.1)

pub sorted_as : (d : ℕ) (xs ys : List ℕ) → Rising 0 d ys → ((k : ℕ) → given k ys ≡ given k xs) → sorted xs ≡ ys
sorted_as d xs ys r e = same_lists 0 0 (sorted xs) ys (sorted_from xs) (from_rising 0 d ys r) (λ k. sorted_often k xs ∙ sym (e k))
