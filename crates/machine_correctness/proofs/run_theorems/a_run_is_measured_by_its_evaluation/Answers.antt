use Rattle.machine_correctness.proofs.Peaks.{measured}
use Rattle.machine_correctness.proofs.run_theorems.a_run_is_measured_by_its_evaluation.Goals as goal

pub returns : goal.returns
returns c = record { theorem = measured }
