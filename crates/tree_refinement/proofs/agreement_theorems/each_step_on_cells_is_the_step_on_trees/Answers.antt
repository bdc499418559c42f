use Rattle.tree_refinement.proofs.Stepping.{next_same}
use Rattle.tree_refinement.proofs.Loading.{begins_same}
use Rattle.tree_refinement.proofs.agreement_theorems.each_step_on_cells_is_the_step_on_trees.Goals as goal

pub returns : goal.returns
returns c = record { first = begins_same; next = next_same }
