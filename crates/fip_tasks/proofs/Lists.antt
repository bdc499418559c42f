-- Elements of lists in which one is replaced, or that get one more.
use Rattle.std.proofs.Common.{◌≡◌, ◌≢◌, ◌⊎◌, inl, inr, ℕ, zero, suc, List, [], ◌∷◌, ◌++◌, Some, refl, sym, ap, map, length}
use Rattle.std.proofs.lemmas.Option.{none-some, same_Some}
use Rattle.std.specs.Prelude.{slice_get, slice_set}
pub use Rattle.fip_language.proofs.Facts.{get_beside as there, get_push as at_push}

pub at_same : {A : Type 0} (xs : List A) (k : ℕ) (x y : A) → slice_get xs k ≡ Some x → slice_get (slice_set xs k y) k ≡ Some y
at_same [] k x y e = absurd (none-some x e)
at_same (z ∷ zs) zero x y e = refl
at_same (z ∷ zs) (suc k) x y e = at_same zs k x y e

pub at_other : {A : Type 0} (xs : List A) (k j : ℕ) (x : A) → j ≢ k → slice_get (slice_set xs k x) j ≡ slice_get xs j
at_other [] k j x h = refl
at_other (y ∷ ys) zero zero x h = absurd (h refl)
at_other (y ∷ ys) (suc k) zero x h = refl
at_other (y ∷ ys) zero (suc j) x h = refl
at_other (y ∷ ys) (suc k) (suc j) x h = at_other ys k j x (λ e. h (ap suc e))

pub map_set : {A B : Type 0} (f : A → B) (xs : List A) (k : ℕ) (x : A) → map f (slice_set xs k x) ≡ slice_set (map f xs) k (f x)
map_set f [] k x = refl
map_set f (y ∷ ys) zero x = refl
map_set f (y ∷ ys) (suc k) x = ap (λ zs. f y ∷ zs) (map_set f ys k x)
