use Rattle.kept_cells.proofs.Spared as P
use Rattle.kept_cells.proofs.theorems.no_step_changes_a_kept_cell.Goals as goal

pub returns : goal.returns
returns c = record { went = P.went; entered = P.entered }
