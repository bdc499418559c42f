-- Which types are scalar, kept in a list.
use Rattle.std.proofs.Common.{◌≡◌, ℕ, zero, suc, ◌<◌, ◌≤◌, ◌+◌, ◌⊎◌, inl, inr, refl, sym, ap, ◌∙◌, List, [], ◌∷◌, length, set, get_or, Option, Some, None, Bool, true, false, arith}
use Rattle.std.proofs.lemmas.List.{get_or-set_same}
use Rattle.std.specs.Prelude.{slice_get}
use Rattle.fip_trees.specs.fip_language.Table.{Table, shapes, is_scalar, all_bare}
use Rattle.fip_base.proofs.fip_language.Facts.{less_or_last as upto}

none_there : (tb : Table) (t : ℕ) → length tb ≤ t → shapes tb t ≡ []
none_there [] t h = refl
none_there (r ∷ rs) zero h = absurd (omega arith)
none_there (r ∷ rs) (suc t) h = none_there rs t (omega arith)

pub past_scalar : (tb : Table) (t : ℕ) → length tb < t → is_scalar tb t ≡ true
past_scalar tb zero h = absurd (omega arith)
past_scalar tb (suc t) h = ap all_bare (none_there tb t (omega arith))

set_below : (xs : List Bool) (i t : ℕ) (b : Bool) → t < i → get_or (set xs i b) t true ≡ get_or xs t true
set_below [] i t b l = refl
set_below (x ∷ xs) zero t b l = absurd (omega arith)
set_below (x ∷ xs) (suc i) zero b l = refl
set_below (x ∷ xs) (suc i) (suc t) b l = set_below xs i t b (omega arith)

pub flags_step : (tb : Table) (xs : List Bool) (i : ℕ) (b : Bool) → i < length xs → ((t : ℕ) → t < i → get_or xs t true ≡ is_scalar tb t) → b ≡ is_scalar tb i → (t : ℕ) → t < i + 1 → get_or (set xs i b) t true ≡ is_scalar tb t
flags_step tb xs i b l f e t h = elim (upto t i h) as (λ r. get_or (set xs i b) t true ≡ is_scalar tb t) [
  | inl g ↦ set_below xs i t b g ∙ f t g
  | inr g ↦ ap (λ j. get_or (set xs i b) j true) g ∙ get_or-set_same xs i b true l ∙ e ∙ ap (is_scalar tb) (sym g)
]
