-- How many cells a store has of each size, and how many of these are those of what names hold.
--
-- With Cons(1, Nil) in the cell at 0 under a, and the cell at 3 released, there are two cells of size 2; one is a's.
use Rattle.std.specs.Prelude.{ℕ, ◌+◌, List, [], ◌∷◌, Option}
use Rattle.tree_refinement.specs.fip_language.Store.{Cell, value_of}
use Rattle.tree_refinement.specs.fip_language.Values.{cells}
use Rattle.separation_bounds.specs.ByTrees.{one_if_sized}
use Rattle.session_correctness.specs.Lodging.{Lodged}

-- the cells of size k, released ones among them
abbrev pub sized : ℕ → List (Option Cell) → ℕ
sized k [] = 0
sized k (o ∷ os) = one_if_sized k o + sized k os

abbrev pub lodged_cells : ℕ → List Lodged → ℕ
lodged_cells k [] = 0
lodged_cells k (l ∷ ls) = cells k (value_of l.tree) + lodged_cells k ls
