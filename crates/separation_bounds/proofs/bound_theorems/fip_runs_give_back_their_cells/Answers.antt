use Rattle.separation_bounds.proofs.GivenBack.{fip_gives_back}
use Rattle.separation_bounds.proofs.bound_theorems.fip_runs_give_back_their_cells.Goals as goal

pub returns : goal.returns
returns c = record { theorem = fip_gives_back }
