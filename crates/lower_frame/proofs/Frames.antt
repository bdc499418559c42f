-- Lists whose elements are changed one after another.
use Rattle.std.proofs.Common.{◌≡◌, sym, ap, ◌∙◌, subst, ℕ, zero, suc, ◌<◌, List, [], ◌∷◌, ◌++◌, length, map, take, drop, slice_set, Some, slice_get, get_or}
use Rattle.std.proofs.lemmas.Option.{slice_get-get_or}
use Rattle.fip_base.proofs.fip_language.Facts.{same_some}
pub use Rattle.fip_base.proofs.fip_language.Facts.{get_at as item}

-- those before place i are changed
pub mapped_next : {A : Type 0} (f : A → A) (xs : List A) (i : ℕ) (x : A) → slice_get xs i ≡ Some x → take (suc i) (slice_set xs i (f x)) ++ map f (drop (suc i) (slice_set xs i (f x))) ≡ take i xs ++ map f (drop i xs)
mapped_next f [] i x e = absurd (cc)
mapped_next f (y ∷ ys) zero x e = ap (λ z. f z ∷ map f ys) (sym (same_some y x e))
mapped_next f (y ∷ ys) (suc i) x e = ap (λ zs. y ∷ zs) (mapped_next f ys i x e)

pub mapped_on : {A : Type 0} (f : A → A) (xs zs : List A) (i n : ℕ) (x y : A) → slice_get xs i ≡ Some x → y ≡ f x → n ≡ suc i → take i xs ++ map f (drop i xs) ≡ zs → take n (slice_set xs i y) ++ map f (drop n (slice_set xs i y)) ≡ zs
mapped_on f xs zs i n x y there is next before =
    subst (λ m. take m (slice_set xs i y) ++ map f (drop m (slice_set xs i y)) ≡ zs) (sym next)
    (subst (λ z. take (suc i) (slice_set xs i z) ++ map f (drop (suc i) (slice_set xs i z)) ≡ zs) (sym is) (mapped_next f xs i x there ∙ before))

pub ruleset mapping = (mapped_next)
