use Rattle.lowering_simulation.proofs.Guards.{typed_runs_end}
use Rattle.lowering_simulation.proofs.evaluation_theorems.typed_code_means_its_program.Goals as goal

pub returns : goal.returns
returns c = record { theorem = typed_runs_end }
