use Rattle.task_correctness.proofs.Meant.{tasks_meant}
use Rattle.task_correctness.proofs.answer_theorems.tasks_end_as_the_source_means.Goals as goal

pub returns : goal.returns
returns c = record { theorem = tasks_meant }
