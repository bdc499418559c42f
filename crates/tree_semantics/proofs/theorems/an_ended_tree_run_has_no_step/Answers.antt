use Rattle.tree_semantics.proofs.Stays.{over_stays}
use Rattle.tree_semantics.proofs.theorems.an_ended_tree_run_has_no_step.Goals as goal

pub returns-clause-stays : goal.returns-clause-stays
returns-clause-stays c = over_stays
