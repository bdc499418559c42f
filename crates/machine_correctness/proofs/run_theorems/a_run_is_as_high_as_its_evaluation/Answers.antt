use Rattle.machine_correctness.proofs.Peaks.{as_high}
use Rattle.machine_correctness.proofs.run_theorems.a_run_is_as_high_as_its_evaluation.Goals as goal

pub returns : goal.returns
returns c = record { theorem = as_high }
