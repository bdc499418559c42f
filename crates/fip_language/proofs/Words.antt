-- Theorems of the words on lists.
use Rattle.std.proofs.Common.{◌≡◌, inl, inr, ℕ, zero, suc, List, [], ◌∷◌, map, Some, refl, sym, ap, subst}
use Rattle.std.specs.Prelude.{slice_get}
use Rattle.fip_language.specs.Every.{Every, Among}
pub use Rattle.fip_language.proofs.Facts.{get_map as slice_get-map, map_at_inverse as map_at}

pub every_among : {A : Type 0} (P : A → Type 0) (x : A) (xs : List A) → Every P xs → Among x xs → P x
every_among P x [] h a = absurd a
every_among P x (y ∷ ys) h (inl e) = subst P (sym e) h.0
every_among P x (y ∷ ys) h (inr a) = every_among P x ys h.1 a
