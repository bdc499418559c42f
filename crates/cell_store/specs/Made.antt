-- What a loader does where it makes a cell, and what callers see of stores.
use Rattle.std.specs.Prelude.{◌≡◌, ℕ, ◌+◌, Bool, true, false, List, ◌∷◌, ◌++◌, Some, None, length, replicate}
use Rattle.std.specs.Prelude.{option_map, slice_get, slice_set}
use Rattle.fip_language.specs.Store.{Cell}
use Rattle.cell_store.specs.Cells.{cell_at, size_of}
use Rattle.cell_store.specs.StoredCells.{Cells}
pub use Rattle.cell_store.specs.StoredCells.{Stored}

-- a store that takes cells: the cells, whether each is released, and the words that are left for more
pub record Loading : Type 0 where
  pub cells : Cells
  pub released : List Bool
  pub left : ℕ

-- A released cell of the same size takes the constructor and the words, and is released no more.
pub record IsRetaken (old new : Loading) (p : ℕ) (c : Cell) : Type 0 where
  pub size : option_map size_of (cell_at old.cells p) ≡ Some (size_of c)
  pub free : slice_get old.released p ≡ Some true
  pub cells : new.cells ≡ slice_set old.cells p (Some c)
  pub released : new.released ≡ slice_set old.released p false
  pub left : new.left ≡ old.left

-- The cell is after all others.
pub record IsAppended (old new : Loading) (p : ℕ) (c : Cell) : Type 0 where
  pub place : p ≡ length old.cells
  pub cells : new.cells ≡ old.cells ++ Some c ∷ replicate (size_of c) None
  pub released : new.released ≡ old.released ++ false ∷ replicate (size_of c) false
  pub left : new.left + (size_of c + 1) ≡ old.left

-- a store that is open
abbrev pub loading : Stored → Loading
loading s = record { cells = s.cells; released = s.released; left = s.left }
