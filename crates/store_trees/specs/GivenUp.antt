-- Which cells are released after others that are given up: those that begin at these places too.
--
-- With a cell at 0 and none at 1, giving up 0 and 1 releases the cell at 0.
use Rattle.std.specs.Prelude.{ℕ, Bool, true, List, [], ◌∷◌, Option, Some, None, slice_set}
use Rattle.fip_base.specs.fip_language.Store.{Cell}
use Rattle.cell_store.specs.Cells.{Cells, cell_at}

-- the cell that begins at place p, where one does
abbrev pub given_up : Option Cell → ℕ → List Bool → List Bool
given_up None p released = released
given_up (Some c) p released = slice_set released p true

-- those at some places, one after another
abbrev pub all_given_up : Cells → List ℕ → List Bool → List Bool
all_given_up cells [] released = released
all_given_up cells (p ∷ ps) released = all_given_up cells ps (given_up (cell_at cells p) p released)
