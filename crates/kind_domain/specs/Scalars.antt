-- Only what a table of types keeps: which of its types are scalar.
use Rattle.std.specs.Prelude.{◌≡◌, ℕ, ◌+◌, ◌<◌, Bool, List, Some, length, slice_get}
use Rattle.cell_code.specs.fip_language.Table.{Table, is_scalar}

-- a mark for int and for each data type, that it is scalar
pub record IsMarked (w : Table) (xs : List Bool) : Type 0 where
  pub long : length xs ≡ length w + 1
  pub marks : (i : ℕ) → i < length w + 1 → slice_get xs i ≡ Some (is_scalar w i)
