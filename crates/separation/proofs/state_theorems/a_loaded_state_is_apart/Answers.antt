use Rattle.separation.proofs.Running.{start_apart}
use Rattle.separation.proofs.state_theorems.a_loaded_state_is_apart.Goals as goal

pub returns : goal.returns
returns c = record { theorem = start_apart }
