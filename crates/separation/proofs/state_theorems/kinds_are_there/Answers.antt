use Rattle.separation.proofs.KindsFound.{kinds_found}
use Rattle.separation.proofs.state_theorems.kinds_are_there.Goals as goal

pub returns : goal.returns
returns c = record { theorem = kinds_found }
