use Rattle.lowering_simulation.proofs.Guards.{guarded}
use Rattle.lowering_simulation.proofs.evaluation_theorems.typed_programs_keep_their_types.Goals as goal

pub returns : goal.returns
returns c = record { theorem = guarded }
