use Rattle.task_correctness.proofs.VerifiedAnywhere.{apart_started}
use Rattle.task_correctness.proofs.turn_theorems.apart_tasks_are_started.Goals as goal

pub returns : goal.returns
returns c = record { theorem = apart_started }
