use Rattle.std.proofs.Common.{◌∙◌}
use Rattle.command_tasks.proofs.Scheduling.{one_turn}
use Rattle.command_tasks.proofs.turns.take_turns.Goals as goal

pub loop-preserved : goal.loop-preserved
loop-preserved c = record {
  number = c.turn.ensures.number ∙ c.loop.invariant.number;
  drawn = c.drawn_after-drawn.ensures;
  shows = λ v kinds first can s. one_turn v kinds first c.loop.tasks c.turn.new.self c.task_of-k.result can (c.turn.ensures.turn v kinds) (c.loop.invariant.shows v kinds first can s);
}
