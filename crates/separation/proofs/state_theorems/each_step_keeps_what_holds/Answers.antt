use Rattle.separation.proofs.Loading.{start_alive}
use Rattle.separation.proofs.Stepping.{next_good}
use Rattle.separation.proofs.Apartness.{alive_apart}
use Rattle.separation.proofs.state_theorems.each_step_keeps_what_holds.Goals as goal

pub returns : goal.returns
returns c = record { first = start_alive; next = next_good; apart = alive_apart }
