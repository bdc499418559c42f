use Rattle.lowering_simulation.proofs.Joined.{joined}
use Rattle.lowering_simulation.proofs.cell_theorems.code_on_cells_means_its_program.Goals as goal

pub returns : goal.returns
returns c = record { theorem = joined }
