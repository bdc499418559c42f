use Rattle.task_correctness.proofs.VerifiedAnywhere.{apart_answers}
use Rattle.task_correctness.proofs.turn_theorems.apart_tasks_answer_as_alone.Goals as goal

pub returns : goal.returns
returns c = record { theorem = apart_answers }
