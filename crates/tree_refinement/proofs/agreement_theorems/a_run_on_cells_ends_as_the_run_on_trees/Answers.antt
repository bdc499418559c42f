use Rattle.tree_refinement.proofs.Running.{cells_end, trees_end}
use Rattle.tree_refinement.proofs.agreement_theorems.a_run_on_cells_ends_as_the_run_on_trees.Goals as goal

pub returns : goal.returns
returns c = record { cells = cells_end; trees = trees_end }
