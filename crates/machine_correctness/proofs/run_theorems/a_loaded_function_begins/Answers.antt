use Rattle.machine_correctness.proofs.Starting.{loaded_begins}
use Rattle.machine_correctness.proofs.run_theorems.a_loaded_function_begins.Goals as goal

pub returns : goal.returns
returns c = record { theorem = loaded_begins }
