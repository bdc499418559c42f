use Rattle.task_semantics.proofs.Ends.{ends_alone, ends_on_trees}
use Rattle.task_semantics.proofs.loading_theorems.what_tasks_come_to.Goals as goal

pub returns : goal.returns
returns c = record { alone = ends_alone; trees = ends_on_trees }
