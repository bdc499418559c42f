use Rattle.task_correctness.proofs.EvaluatedAnywhere.{apart_answers_meant}
use Rattle.task_correctness.proofs.answer_theorems.apart_tasks_answer_what_the_source_means.Goals as goal

pub returns : goal.returns
returns c = record { theorem = apart_answers_meant }
