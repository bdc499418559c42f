-- Whether an item is in a list, by an exact test of sameness.
use Rattle.std.proofs.Common.{◌≡◌, inl, inr, Bool, true, false, ◌||◌, List, [], ◌∷◌, refl}
use Rattle.std.specs.List.{list_any}
use Rattle.fip_base.specs.fip_language.Every.{Among}

-- a test of sameness that is exact
pub record IsSame {A : Type 0} (same : A → A → Bool) : Type 0 where
  pub yes : (x y : A) → same x y ≡ true → x ≡ y
  pub no : (x y : A) → same x y ≡ false → x ≡ y → ⊥

module _ {A : Type 0} (same : A → A → Bool) (exact : IsSame same) where
  found_by : (b : Bool) (x y : A) (ys : List A) → same x y ≡ b → (list_any (λ z. same x z) ys ≡ true → Among x ys) → (b || list_any (λ z. same x z) ys) ≡ true → Among x (y ∷ ys)
  found_by true x y ys e rest h = inl (exact.yes x y e)
  found_by false x y ys e rest h = inr (rest h)

  pub found : (x : A) (xs : List A) → list_any (λ z. same x z) xs ≡ true → Among x xs
  found x [] e = cc
  found x (y ∷ ys) e = found_by (same x y) x y ys refl (found x ys) e

  missing_by : (b : Bool) (x y : A) (ys : List A) → same x y ≡ b → (list_any (λ z. same x z) ys ≡ false → Among x ys → ⊥) → (b || list_any (λ z. same x z) ys) ≡ false → Among x (y ∷ ys) → ⊥
  missing_by true x y ys e rest h a = cc
  missing_by false x y ys e rest h (inl q) = exact.no x y e q
  missing_by false x y ys e rest h (inr a) = rest h a

  pub missing : (x : A) (xs : List A) → list_any (λ z. same x z) xs ≡ false → Among x xs → ⊥
  missing x [] e a = a
  missing x (y ∷ ys) e a = missing_by (same x y) x y ys refl (missing x ys) e a
