use Rattle.lowering_simulation.proofs.Whole.{runs_to}
use Rattle.lowering_simulation.proofs.run_theorems.lowered_code_has_the_peak_of_its_program.Goals as goal

pub returns : goal.returns
returns c = record { theorem = runs_to }
