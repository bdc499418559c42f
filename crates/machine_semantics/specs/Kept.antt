-- What every step keeps, of any code: the places and sizes of all cells, and that a cell is released.
use Rattle.std.specs.Prelude.{◌≡◌, ℕ, true, Some, slice_get}
use Rattle.machine_semantics.specs.Cells.{Store, sizes}

pub record Keeps (old new : Store) : Type 0 where
  pub sizes : sizes new ≡ sizes old
  pub released : (p : ℕ) → slice_get old.released p ≡ Some true → slice_get new.released p ≡ Some true
