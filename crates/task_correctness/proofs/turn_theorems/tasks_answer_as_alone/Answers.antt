use Rattle.task_correctness.proofs.Answers.{answers}
use Rattle.task_correctness.proofs.turn_theorems.tasks_answer_as_alone.Goals as goal

pub returns : goal.returns
returns c = record { theorem = answers }
