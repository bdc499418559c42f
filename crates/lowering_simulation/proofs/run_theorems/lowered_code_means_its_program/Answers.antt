use Rattle.lowering_simulation.proofs.Whole.{runs_end}
use Rattle.lowering_simulation.proofs.run_theorems.lowered_code_means_its_program.Goals as goal

pub returns : goal.returns
returns c = record { theorem = runs_end }
