use Rattle.lowering_soundness.proofs.Origins.{of_function}
use Rattle.lowering_soundness.proofs.row_theorems.calls_come_from_the_body.Goals as goal

pub returns : goal.returns
returns c = record { theorem = of_function }
