use Rattle.separation_bounds.proofs.GivenBack.{start_held, end_held}
use Rattle.separation_bounds.proofs.bound_theorems.held_cells_are_those_of_the_trees.Goals as goal

pub returns : goal.returns
returns c = record { first = start_held; last = end_held }
