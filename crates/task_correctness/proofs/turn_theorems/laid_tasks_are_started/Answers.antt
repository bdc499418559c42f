use Rattle.task_correctness.proofs.Started.{are_started}
use Rattle.task_correctness.proofs.turn_theorems.laid_tasks_are_started.Goals as goal

pub returns : goal.returns
returns c = record { theorem = are_started }
