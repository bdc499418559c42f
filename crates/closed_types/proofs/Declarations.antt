-- Declarations by their numbers.
use Rattle.std.proofs.Common.{◌≡◌, ℕ, zero, suc, ◌-◌, ◌<◌, List, [], ◌∷◌, map, length, get_or, Some, slice_get, refl, sym, ap, arith}
use Rattle.closed_types.specs.Source.{Source, declared_at}
pub use Rattle.fip_base.proofs.fip_language.Facts.{get_map_past as at_past}

pub at_there : {A B : Type 0} (f : A → B) (xs : List A) (k : ℕ) (x : A) → k < length xs → x ≡ get_or xs k x → slice_get (map f xs) k ≡ Some (f x)
at_there f [] k x l h = absurd (omega (arith, l))
at_there f (y ∷ xs) zero x l h = ap (λ z. Some (f z)) (sym h)
at_there f (y ∷ xs) (suc k) x l h = at_there f xs k x (omega (arith, l)) h

-- a data type by its number
pub declared_by : (s : Source) (n : ℕ) → (n ≡ 0 → ⊥) → declared_at s n ≡ slice_get s.types (n - 1)
declared_by s zero h = absurd (h refl)
declared_by s (suc n) h = ap (slice_get s.types) (let e : n ≡ suc n - 1 = omega arith in e)
