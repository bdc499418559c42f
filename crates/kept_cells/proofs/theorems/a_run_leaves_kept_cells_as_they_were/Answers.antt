use Rattle.kept_cells.proofs.Spared.{run_kept, run_held}
use Rattle.kept_cells.proofs.theorems.a_run_leaves_kept_cells_as_they_were.Goals as goal

pub returns : goal.returns
returns c = record { theorem = run_kept; held = run_held }
