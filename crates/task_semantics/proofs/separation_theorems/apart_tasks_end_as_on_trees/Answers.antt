use Rattle.task_semantics.proofs.Ending.{ends_on_trees}
use Rattle.task_semantics.proofs.separation_theorems.apart_tasks_end_as_on_trees.Goals as goal

pub returns : goal.returns
returns c = record { theorem = ends_on_trees }
