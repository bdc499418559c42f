-- Where numbers rise, the first one from a number on reports whether one lies within bounds.
use Rattle.std.proofs.Common.{◌≡◌, ℕ, zero, suc, ◌<◌, ◌≤◌, ◌⊎◌, inl, inr, refl, sym, ap, ap₂, ◌∙◌, subst, List, [], ◌∷◌, length, get_or, Bool, true, false, not, ◌&&◌, ◌||◌, nat_lt, Result, Ok, Err, arith}
use Rattle.std.specs.Result.{MatchResult}
use Rattle.std.specs.Ordering.{nat_cmp}
use Rattle.std.specs.List.Sorted.{IsBinarySearchResult}
use Rattle.std.proofs.lemmas.Bool.{lt-ltb, le-ltb, cases_lt, and_left, and_right}
use Rattle.std.proofs.lemmas.List.Sorted.{searched}
use Rattle.derivation_walk.specs.Tables.{has_within, IsRising}

is_inside : (first end x : ℕ) → first ≤ x → x < end → not (nat_lt x first) && nat_lt x end ≡ true
is_inside first end x l k = ap₂ (λ a b. not a && b) (le-ltb x first l) (lt-ltb x end k)

is_outside : (first end x : ℕ) → (x < first) ⊎ (end ≤ x) → not (nat_lt x first) && nat_lt x end ≡ false
is_outside first end x (inl l) = and_left (not (nat_lt x first)) (nat_lt x end) (ap not (lt-ltb x first l))
is_outside first end x (inr l) = and_right (not (nat_lt x first)) (nat_lt x end) (le-ltb x end l)

or_true : (a b : Bool) → b ≡ true → a || b ≡ true
or_true true b e = refl
or_true false b e = e

one_within : (first end : ℕ) (xs : List ℕ) (i : ℕ) → i < length xs → first ≤ get_or xs i 0 → get_or xs i 0 < end → has_within first end xs ≡ true
one_within first end [] i l f g = absurd (omega arith)
one_within first end (x ∷ xs) zero l f g = ap (λ b. b || has_within first end xs) (is_inside first end x f g)
one_within first end (x ∷ xs) (suc i) l f g = or_true (not (nat_lt x first) && nat_lt x end) (has_within first end xs) (one_within first end xs i (omega arith) f g)

pub none_within : (first end : ℕ) (xs : List ℕ) → ((i : ℕ) → i < length xs → (get_or xs i 0 < first) ⊎ (end ≤ get_or xs i 0)) → has_within first end xs ≡ false
none_within first end [] h = refl
none_within first end (x ∷ xs) h =
    ap (λ b. b || has_within first end xs) (is_outside first end x (h 0 (omega arith)))
    ∙ none_within first end xs (λ i l. h (suc i) (omega arith))

-- a number that is there; those before it are less than first, or are not less than it
at_place : (xs : List ℕ) (first end next place : ℕ) → IsRising xs → next < length xs → place ≡ get_or xs next 0 → first ≤ place → ((i : ℕ) → i < next → (get_or xs i 0 < first) ⊎ (place ≤ get_or xs i 0)) → nat_lt place end ≡ has_within first end xs
at_place xs first end next place up l p f h = by (cases_lt place end)
  where
    outside : (i : ℕ) → end ≤ place → (i < next) ⊎ (next ≤ i) → i < length xs → (get_or xs i 0 < first) ⊎ (end ≤ get_or xs i 0)
    outside i k (inr m) n = let u = up next i m n in inr (omega (arith, u, p, k))
    outside i k (inl m) n = of (h i m)
      where
        of : (get_or xs i 0 < first) ⊎ (place ≤ get_or xs i 0) → (get_or xs i 0 < first) ⊎ (end ≤ get_or xs i 0)
        of (inl a) = inl a
        of (inr a) = inr (omega (arith, a, k))

    by : (place < end) ⊎ (end ≤ place) → nat_lt place end ≡ has_within first end xs
    by (inl k) = lt-ltb place end k ∙ sym (one_within first end xs next l (omega (arith, p, f)) (omega (arith, p, k)))
    by (inr k) = le-ltb place end k ∙ sym (none_within first end xs (λ i n. outside i k (cases_lt i next) n))

abbrev IsFound : List ℕ → ℕ → ℕ → Type 0
IsFound xs first i = (i < length xs) × (get_or xs i 0 ≡ first)

abbrev IsMissed : List ℕ → ℕ → ℕ → Type 0
IsMissed xs first i =
    (i ≤ length xs) × ((k : ℕ) → k < i → get_or xs k 0 < first) × ((k : ℕ) → i ≤ k → k < length xs → first < get_or xs k 0)

is_ok : (xs : List ℕ) (first next : ℕ) (r : Result ℕ ℕ) → r ≡ Ok next → MatchResult r (IsFound xs first) (IsMissed xs first) → IsFound xs first next
is_ok xs first next r e m = subst (λ q. MatchResult q (IsFound xs first) (IsMissed xs first)) e m

is_err : (xs : List ℕ) (first next : ℕ) (r : Result ℕ ℕ) → r ≡ Err next → MatchResult r (IsFound xs first) (IsMissed xs first) → IsMissed xs first next
is_err xs first next r e m = subst (λ q. MatchResult q (IsFound xs first) (IsMissed xs first)) e m

-- what is at the place that a search gave
pub found_at : (xs : List ℕ) (first end next place : ℕ) (r : Result ℕ ℕ) → IsBinarySearchResult (λ y. nat_cmp y first) xs r → IsRising xs → (r ≡ Ok next) ⊎ (r ≡ Err next) → next < length xs → place ≡ get_or xs next 0 → nat_lt place end ≡ has_within first end xs
found_at xs first end next place r h up (inl e) l p =
    let f = is_ok xs first next r e (searched xs first r h up) in
    let s : place ≡ first = p ∙ f.1 in
    at_place xs first end next place up l p (omega (arith, s)) (λ i k. before i (cases_lt (get_or xs i 0) first))
  where
    before : (i : ℕ) → (get_or xs i 0 < first) ⊎ (first ≤ get_or xs i 0) → (get_or xs i 0 < first) ⊎ (place ≤ get_or xs i 0)
    before i (inl a) = inl a
    before i (inr a) =
        let f = is_ok xs first next r e (searched xs first r h up) in
        let s : place ≡ first = p ∙ f.1 in
        inr (omega (arith, a, s))
found_at xs first end next place r h up (inr e) l p =
    let f = is_err xs first next r e (searched xs first r h up) in
    let g : first < get_or xs next 0 = f.2 next (omega arith) l in
    at_place xs first end next place up l p (omega (arith, g, p)) (λ i k. inl (f.1 i k))

-- no number is there
pub found_none : (xs : List ℕ) (first end next : ℕ) (r : Result ℕ ℕ) → IsBinarySearchResult (λ y. nat_cmp y first) xs r → IsRising xs → (r ≡ Ok next) ⊎ (r ≡ Err next) → length xs ≤ next → false ≡ has_within first end xs
found_none xs first end next r h up (inl e) l =
    let f = is_ok xs first next r e (searched xs first r h up) in
    let g = f.0 in
    absurd (omega (arith, g))
found_none xs first end next r h up (inr e) l =
    let f = is_err xs first next r e (searched xs first r h up) in
    sym (none_within first end xs (λ i k. inl (f.1 i (omega (arith, k, l)))))
