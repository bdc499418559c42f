use Rattle.machine_semantics.proofs.Sizes.{went_keeps, entered_keeps}
use Rattle.machine_semantics.proofs.theorems.a_step_keeps_places_and_sizes.Goals as goal

pub returns-clause-went : goal.returns-clause-went
returns-clause-went c = went_keeps

pub returns-clause-entered : goal.returns-clause-entered
returns-clause-entered c = entered_keeps
