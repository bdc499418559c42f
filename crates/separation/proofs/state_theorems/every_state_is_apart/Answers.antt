use Rattle.separation.proofs.Running.{run_apart}
use Rattle.separation.proofs.state_theorems.every_state_is_apart.Goals as goal

pub returns : goal.returns
returns c = record { theorem = run_apart }
