-- How many cells of a size trees have, and how many of these places have a cell of a size.
--
-- Cons(1, Cons(2, Nil)) has two cells of size 2.
use Rattle.std.specs.Prelude.{ℕ, ◌+◌, List, [], ◌∷◌, Option, Some, None, nat_eq, if◌then◌else◌}
use Rattle.separation.specs.fip_language.Values.{cells}
use Rattle.separation.specs.fip_language.Store.{Cell, Placed, value_of}
use Rattle.separation.specs.machine_semantics.Cells.{Store, cell_at, size_of}

abbrev pub cells_of_trees : ℕ → List Placed → ℕ
cells_of_trees k [] = 0
cells_of_trees k (x ∷ xs) = cells k (value_of x) + cells_of_trees k xs

abbrev pub one_if_sized : ℕ → Option Cell → ℕ
one_if_sized k None = 0
one_if_sized k (Some c) = if nat_eq k (size_of c) then 1 else 0

abbrev pub cells_at : ℕ → Store → List ℕ → ℕ
cells_at k s [] = 0
cells_at k s (p ∷ ps) = one_if_sized k (cell_at s p) + cells_at k s ps
