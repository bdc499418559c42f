use Rattle.task_semantics.proofs.Scheduling.{each_is_alone, each_keeps_its_cells, each_is_seen}
use Rattle.task_semantics.proofs.schedule_theorems.tasks_do_as_alone.Goals as goal

pub returns : goal.returns
returns c = record {
  alone = λ before waits code. each_is_alone before waits code;
  cells = λ before waits code. each_keeps_its_cells before waits code;
  seen = λ before waits code. each_is_seen before waits code;
}
