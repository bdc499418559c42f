use Rattle.task_semantics.proofs.Finishing.{all_end}
use Rattle.task_semantics.proofs.loading_theorems.all_tasks_end.Goals as goal

pub returns : goal.returns
returns c = record { theorem = all_end }
