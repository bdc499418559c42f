-- A walk over a numbered list gathers what each item breaks.
use Rattle.std.proofs.Common.{◌≡◌, ℕ, zero, suc, ◌+◌, List, [], ◌∷◌, ◌++◌, length, take, slice_get, Option, Some, None, refl, ap, sym, ◌∙◌, arith, append_assoc, append-nil}
use Rattle.fip_trees.specs.Least.{after}
use Rattle.fip_trees.specs.declared.least.Violation.{Violation}
use Rattle.fip_trees.proofs.Leasts.{after-append}
use Rattle.closed_types.specs.Numbering.{numbered_of}

module _ {A : Type 0} (breaks : ℕ → A → List Violation) (first : Option Violation) where
  numbered-last : (i : ℕ) (xs : List A) (x : A) → numbered_of breaks i (xs ++ x ∷ []) ≡ numbered_of breaks i xs ++ breaks (i + length xs) x
  numbered-last i [] x = append-nil (breaks i x) ∙ ap (λ n. breaks n x) (let e : i ≡ i + 0 = omega arith in e)
  numbered-last i (y ∷ xs) x =
      ap (λ l. breaks i y ++ l) (numbered-last (suc i) xs x ∙ ap (λ n. numbered_of breaks (suc i) xs ++ breaks n x) (let e : suc i + length xs ≡ i + suc (length xs) = omega arith in e))
      ∙ sym (append_assoc (breaks i y) (numbered_of breaks (suc i) xs) (breaks (i + suc (length xs)) x))

  -- the walk has gathered what the first i break
  abbrev pub Gathers : ℕ → List A → Option Violation → Type 0
  Gathers i xs o = o ≡ after first (numbered_of breaks 0 (take i xs))

  take-last : (i : ℕ) (xs more : List A) (x : A) → slice_get xs i ≡ Some x → take (suc i) (xs ++ more) ≡ take i xs ++ x ∷ []
  take-last i [] more x e = cc
  take-last zero (y ∷ xs) more x e = ap (λ z. z ∷ []) (let f : y ≡ x = cc in f)
  take-last (suc i) (y ∷ xs) more x e = ap (λ l. y ∷ l) (take-last i xs more x e)

  take-length : (i : ℕ) (xs : List A) (x : A) → slice_get xs i ≡ Some x → length (take i xs) ≡ i
  take-length i [] x e = cc
  take-length zero (y ∷ xs) x e = refl
  take-length (suc i) (y ∷ xs) x e = ap suc (take-length i xs x e)

  take-all : (i : ℕ) (xs : List A) → slice_get xs i ≡ None → take i xs ≡ xs
  take-all zero [] e = refl
  take-all (suc i) [] e = refl
  take-all zero (y ∷ xs) e = cc
  take-all (suc i) (y ∷ xs) e = ap (λ l. y ∷ l) (take-all i xs e)

  -- one more item, and others that come after
  pub gathers_goes : (i : ℕ) (xs more : List A) (x : A) (o : Option Violation) → slice_get xs i ≡ Some x → Gathers i xs o → Gathers (i + 1) (xs ++ more) (after o (breaks i x))
  gathers_goes i xs more x o e g =
      ap (λ p. after p (breaks i x)) g
      ∙ sym (after-append first (numbered_of breaks 0 (take i xs)) (breaks i x))
      ∙ ap (after first)
      (ap (λ n. numbered_of breaks 0 (take i xs) ++ breaks n x) (let l = take-length i xs x e in let f : i ≡ 0 + length (take i xs) = omega (arith, l) in f)
      ∙ sym (numbered-last 0 (take i xs) x)
      ∙ ap (numbered_of breaks 0) (sym (take-last i xs more x e) ∙ ap (λ n. take n (xs ++ more)) (let f : suc i ≡ i + 1 = omega arith in f)))

  pub gathers_ends : (i : ℕ) (xs : List A) (o : Option Violation) → slice_get xs i ≡ None → Gathers i xs o → o ≡ after first (numbered_of breaks 0 xs)
  gathers_ends i xs o e g = g ∙ ap (λ l. after first (numbered_of breaks 0 l)) (take-all i xs e)
