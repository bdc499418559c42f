use Rattle.task_semantics.proofs.Laid.{are_there, begin_together, are_loaded}
use Rattle.task_semantics.proofs.loading_theorems.loaded_tasks_begin_together.Goals as goal

pub returns : goal.returns
returns c = record { there = are_there; together = begin_together; loaded = are_loaded }
