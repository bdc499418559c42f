use Rattle.run_safety.proofs.Alive.{safe_run, run_leaves}
use Rattle.run_safety.proofs.theorems.a_safe_task_stays_safe.Goals as goal

pub returns : goal.returns
returns c = record { run = safe_run; left = run_leaves }
