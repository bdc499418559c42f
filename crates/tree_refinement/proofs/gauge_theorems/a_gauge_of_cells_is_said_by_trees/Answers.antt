use Rattle.tree_refinement.proofs.Cells.{highest_by_trees, lowest_by_trees}
use Rattle.tree_refinement.proofs.gauge_theorems.a_gauge_of_cells_is_said_by_trees.Goals as goal

pub returns : goal.returns
returns c = record { highest = highest_by_trees; lowest = lowest_by_trees }
