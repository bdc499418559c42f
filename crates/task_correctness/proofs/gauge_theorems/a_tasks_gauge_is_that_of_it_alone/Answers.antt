use Rattle.task_correctness.proofs.Gauges.{gauge_alone}
use Rattle.task_correctness.proofs.gauge_theorems.a_tasks_gauge_is_that_of_it_alone.Goals as goal

pub returns : goal.returns
returns c = record { theorem = gauge_alone }
