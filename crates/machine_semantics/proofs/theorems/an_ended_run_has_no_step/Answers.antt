use Rattle.machine_semantics.proofs.Stays.{over_stays}
use Rattle.machine_semantics.proofs.theorems.an_ended_run_has_no_step.Goals as goal

pub returns-clause-stays : goal.returns-clause-stays
returns-clause-stays c = over_stays
