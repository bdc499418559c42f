use Rattle.machine_correctness.proofs.Drops.{known}
use Rattle.machine_correctness.proofs.machine_theorems.drops_are_known.Goals as goal

pub returns : goal.returns
returns c = record { theorem = known }
