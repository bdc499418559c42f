-- Elements of lists by their places.
use Rattle.std.proofs.Common.{◌≡◌, ◌≢◌, ℕ, zero, suc, ◌+◌, ◌<◌, List, [], ◌∷◌, ◌++◌, length, take, drop, set, arith}
use Rattle.std.proofs.Common.{refl, sym, ap, inl, inr, ◌∙◌, subst}
use Rattle.std.specs.Prelude.{◌⊎◌, Some, slice_get}
use Rattle.std.proofs.lemmas.Option.{none-some, same_Some}
use Rattle.std.proofs.lemmas.Bool.{cases_lt}
use Rattle.call_groups.specs.CallGraph.{In}
pub use Rattle.fip_base.proofs.fip_language.Facts.{get_last as at_end, get_more as at_more, get_push as at_push, same_or_not}

pub at_same : {A : Type 0} (xs : List A) (i : ℕ) (x y : A) → slice_get xs i ≡ Some x → slice_get (set xs i y) i ≡ Some y
at_same [] i x y h = absurd (none-some x h)
at_same (z ∷ xs) zero x y h = refl
at_same (z ∷ xs) (suc i) x y h = at_same xs i x y h

pub at_other : {A : Type 0} (xs : List A) (i j : ℕ) (y : A) → j ≢ i → slice_get (set xs i y) j ≡ slice_get xs j
at_other [] i j y h = refl
at_other (z ∷ xs) zero zero y h = absurd (h refl)
at_other (z ∷ xs) zero (suc j) y h = refl
at_other (z ∷ xs) (suc i) zero y h = refl
at_other (z ∷ xs) (suc i) (suc j) y h = at_other xs i j y (λ e. h (ap suc e))

pub in_first : {A : Type 0} (xs ys : List A) (i : ℕ) (x : A) → i < length xs → slice_get (xs ++ ys) i ≡ Some x → slice_get xs i ≡ Some x
in_first [] ys i x l h = absurd (omega arith)
in_first (z ∷ xs) ys zero x l h = h
in_first (z ∷ xs) ys (suc i) x l h = in_first xs ys i x (omega arith) h

-- an element of two lists after each other
pub at_append : {A : Type 0} (xs ys : List A) (i : ℕ) (x : A) → slice_get (xs ++ ys) i ≡ Some x → (slice_get xs i ≡ Some x) ⊎ ((j : ℕ) × (i ≡ length xs + j) × (slice_get ys j ≡ Some x))
at_append [] ys i x h = inr (i, omega arith, h)
at_append (z ∷ xs) ys zero x h = inl h
at_append (z ∷ xs) ys (suc i) x h = elim (at_append xs ys i x h) [
  | inl e ↦ inl e
  | inr e ↦ let l : i ≡ length xs + e.0 = e.1 in inr (e.0, omega arith, e.2)
]

pub at_second : {A : Type 0} (xs ys : List A) (j : ℕ) (x : A) → slice_get ys j ≡ Some x → slice_get (xs ++ ys) (length xs + j) ≡ Some x
at_second [] ys j x h = let e : j ≡ 0 + j = omega arith in subst (λ n. slice_get ys n ≡ Some x) e h
at_second (z ∷ xs) ys j x h =
    let e : suc (length xs + j) ≡ suc (length xs) + j = omega arith in
    subst (λ n. slice_get (z ∷ (xs ++ ys)) n ≡ Some x) e (at_second xs ys j x h)

pub at_take : {A : Type 0} (n : ℕ) (xs : List A) (i : ℕ) (x : A) → slice_get (take n xs) i ≡ Some x → (i < n) × (slice_get xs i ≡ Some x)
at_take zero xs i x h = absurd (none-some x h)
at_take (suc n) [] i x h = absurd (none-some x h)
at_take (suc n) (z ∷ xs) zero x h = (omega arith, h)
at_take (suc n) (z ∷ xs) (suc i) x h = let r = at_take n xs i x h in let l : i < n = r.0 in (omega arith, r.1)

pub at_kept : {A : Type 0} (n : ℕ) (xs : List A) (i : ℕ) (x : A) → i < n → slice_get xs i ≡ Some x → slice_get (take n xs) i ≡ Some x
at_kept zero xs i x l h = absurd (omega arith)
at_kept (suc n) [] i x l h = absurd (none-some x h)
at_kept (suc n) (z ∷ xs) zero x l h = h
at_kept (suc n) (z ∷ xs) (suc i) x l h = at_kept n xs i x (omega arith) h

pub at_drop : {A : Type 0} (n : ℕ) (xs : List A) (i : ℕ) → slice_get (drop n xs) i ≡ slice_get xs (n + i)
at_drop zero xs i = ap (λ k. slice_get xs k) (omega arith)
at_drop (suc n) [] i = refl
at_drop (suc n) (z ∷ xs) i = at_drop n xs i ∙ ap (λ k. slice_get (z ∷ xs) k) (let e : suc (n + i) ≡ suc n + i = omega arith in e)

pub in_more : {A : Type 0} (xs ys : List A) (x : A) → In x xs → In x (xs ++ ys)
in_more xs ys x h = (h.0, at_more xs ys h.0 x h.1)

pub in_end : {A : Type 0} (xs : List A) (y : A) → In y (xs ++ y ∷ [])
in_end xs y = (length xs, at_end xs y)

pub in_push : {A : Type 0} (xs : List A) (y x : A) → In x (xs ++ y ∷ []) → In x xs ⊎ (x ≡ y)
in_push xs y x h = elim (at_push xs y h.0 x h.1) [
  | inl e ↦ inl (h.0, e)
  | inr e ↦ inr e.1
]

pub in_none : {A : Type 0} (x : A) → In x [] → ⊥
in_none x h = none-some x h.1
