use Rattle.lowering_soundness.proofs.Reached.{calls_there}
use Rattle.lowering_soundness.proofs.stack_theorems.calls_of_bodies_are_reached.Goals as goal

pub returns : goal.returns
returns c = record { theorem = calls_there }
