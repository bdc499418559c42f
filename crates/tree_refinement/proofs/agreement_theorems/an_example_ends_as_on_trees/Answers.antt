use Rattle.tree_refinement.proofs.Examples.{example_begins, example_ends}
use Rattle.tree_refinement.proofs.agreement_theorems.an_example_ends_as_on_trees.Goals as goal

pub returns : goal.returns
returns c = record { begins = example_begins; ends = example_ends }
