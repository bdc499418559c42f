use Rattle.task_correctness.proofs.Turned.{can_turn, can_finish}
use Rattle.task_correctness.proofs.turn_theorems.loaded_tasks_can_turn.Goals as goal

pub returns : goal.returns
returns c = record { turn = can_turn; finish = can_finish }
