-- Stores whose places have 32 bits.
use Rattle.std.specs.Prelude.{ℕ, ◌≤◌, Bool, List, length}
use Rattle.cell_store.specs.StoredCells.{Cells}
use Rattle.machine_semantics.specs.Cells.{Store}

abbrev pub IsSmall : Cells → Type 0
IsSmall cs = length cs ≤ 4294967296

-- the cells and which of them are released, as the store of a run
abbrev pub store_of : Cells → List Bool → Store
store_of cs rs = record { cells = cs; released = rs }
