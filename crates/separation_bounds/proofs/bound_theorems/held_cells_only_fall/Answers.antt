use Rattle.separation_bounds.proofs.Falling.{run_held, run_count}
use Rattle.separation_bounds.proofs.bound_theorems.held_cells_only_fall.Goals as goal

pub returns : goal.returns
returns c = record { among = run_held; fewer = run_count }
