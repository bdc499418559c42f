use Rattle.std.proofs.Common.{◌∙◌}
use Rattle.lower_parts.proofs.lowering_relation.Placing.{gives_up_on}
use Rattle.lower_parts.proofs.lower_frame.Losing.{loses_on}
use Rattle.lower_parts.proofs.Shedding.{sheds_on}
use Rattle.lower_parts.proofs.Laying.{laid_on, up_next}
use Rattle.std.proofs.Common.{false, ◌+◌, arith}
use Rattle.cell_lower.proofs.lowerer.Lowerer.free_all.Goals as goal

pub loop-below-preserved : goal.loop-below-preserved
loop-below-preserved c = record {
  given_up = gives_up_on _ _ _ c.loop-below.invariant.given_up c.in_ok-free_past.ensures.given_up;
  loses = loses_on _ _ _ c.loop-below.invariant.loses c.in_ok-free_past.ensures.loses;
  sheds = sheds_on _ _ _ _ _ _ c.loop-below.invariant.sheds c.in_ok-free_past.ensures.sheds;
  context = c.in_ok-free_past.ensures.context ∙ c.loop-below.invariant.context;
  gives_up = c.in_ok-free_past.ensures.gives_up ∙ c.loop-below.invariant.gives_up;
  walk = c.in_ok-free_past.ensures.walk ∙ c.loop-below.invariant.walk;
  laid = laid_on false _ _ _ _ _ _ c.loop-below.invariant.laid c.in_ok-free_past.ensures.laid;
  spent = up_next c.args.self.now.frame c.loop-below.self.frame c.free_past.new.self.frame c.loop-below.below (c.loop-below.below + 1) (c.loop-below.below + 1) (omega arith) (omega arith) c.loop-below.invariant.laid.accounts c.loop-below.invariant.spent c.in_ok-free_past.ensures.spent;
}
