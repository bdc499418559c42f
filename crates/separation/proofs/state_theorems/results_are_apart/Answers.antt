use Rattle.separation.proofs.Running.{run_gives}
use Rattle.separation.proofs.state_theorems.results_are_apart.Goals as goal

pub returns : goal.returns
returns c = record { theorem = run_gives }
