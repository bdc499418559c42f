use Rattle.task_semantics.proofs.Together.{begin, begins, loaded}
use Rattle.task_semantics.proofs.schedule_theorems.an_example_begins_together.Goals as goal

pub returns : goal.returns
returns c = record {
  theorem = begin;
  together = λ before waits kinds. begins before waits kinds;
  loaded = λ before waits kinds. loaded before waits kinds;
}
