use Rattle.task_semantics.proofs.Seen.{held_are, frames_are, words_are}
use Rattle.task_semantics.proofs.schedule_theorems.a_task_is_seen_as_alone.Goals as goal

pub returns : goal.returns
returns c = record {
  held = λ f own shared k store h. held_are f own shared k store h;
  frames = λ before waits code f a b h. frames_are before waits code f a b h;
  words = λ before waits code f a b h. words_are before waits code f a b h;
}
