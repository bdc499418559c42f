use Rattle.tree_refinement.proofs.Running.{run_same}
use Rattle.tree_refinement.proofs.agreement_theorems.a_run_on_cells_is_the_run_on_trees.Goals as goal

pub returns : goal.returns
returns c = record { theorem = run_same }
