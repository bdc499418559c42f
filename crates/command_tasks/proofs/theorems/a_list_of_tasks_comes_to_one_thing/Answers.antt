use Rattle.command_tasks.proofs.Once.{turns_once, turns_ready}
use Rattle.command_tasks.proofs.theorems.a_list_of_tasks_comes_to_one_thing.Goals as goal

pub returns : goal.returns
returns c = record {
  one = λ source input room d e h k. turns_once source input room d e h k;
  ready = λ source input room e h. turns_ready source input room e h;
}
