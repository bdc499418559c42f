-- Theorems of what holds of every item of a list.
use Rattle.std.proofs.Common.{◌≡◌, ℕ, zero, suc, List, [], ◌∷◌, ◌++◌, Some, subst, slice_get}
use Rattle.fip_language.specs.Every.{Every}

pub every_append : {A : Type 0} (P : A → Type 0) (xs ys : List A) → Every P xs → Every P ys → Every P (xs ++ ys)
every_append P [] ys h g = g
every_append P (x ∷ xs) ys h g = (h.0, every_append P xs ys h.1 g)

pub every_split : {A : Type 0} (P : A → Type 0) (xs ys : List A) → Every P (xs ++ ys) → Every P xs × Every P ys
every_split P [] ys h = (tt, h)
every_split P (x ∷ xs) ys h = let r = every_split P xs ys h.1 in ((h.0, r.0), r.1)

pub every_last : {A : Type 0} (P : A → Type 0) (xs : List A) (x : A) → Every P xs → P x → Every P (xs ++ x ∷ [])
every_last P xs x h p = every_append P xs (x ∷ []) h (p, tt)

pub every_at : {A : Type 0} (P : A → Type 0) (xs : List A) (n : ℕ) (x : A) → Every P xs → slice_get xs n ≡ Some x → P x
every_at P [] n x h e = cc
every_at P (y ∷ ys) zero x h e = let same : y ≡ x = cc in subst P same h.0
every_at P (y ∷ ys) (suc n) x h e = every_at P ys n x h.1 e

pub every_so : {A : Type 0} (P Q : A → Type 0) → ((x : A) → P x → Q x) → (xs : List A) → Every P xs → Every Q xs
every_so P Q so [] h = tt
every_so P Q so (x ∷ xs) h = (so x h.0, every_so P Q so xs h.1)
