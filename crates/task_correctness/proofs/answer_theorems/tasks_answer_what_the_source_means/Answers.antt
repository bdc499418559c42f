use Rattle.task_correctness.proofs.Answered.{answers_meant}
use Rattle.task_correctness.proofs.answer_theorems.tasks_answer_what_the_source_means.Goals as goal

pub returns : goal.returns
returns c = record { theorem = answers_meant }
