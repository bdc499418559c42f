use Rattle.tree_refinement.proofs.Loading.{begins_with}
use Rattle.tree_refinement.proofs.agreement_theorems.an_entry_has_arguments.Goals as goal

pub returns : goal.returns
returns c = record { theorem = begins_with }
