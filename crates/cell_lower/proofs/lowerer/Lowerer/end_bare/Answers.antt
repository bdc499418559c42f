use Rattle.std.proofs.Common.{◌∙◌}
use Rattle.lower_parts.proofs.lowering_relation.Placing.{gives_up_on}
use Rattle.lower_parts.proofs.lower_frame.Losing.{loses_on}
use Rattle.lower_parts.proofs.Shedding.{sheds_on}
use Rattle.lower_parts.proofs.Laying.{laid_on, bares_next}
use Rattle.std.proofs.Common.{true, ◌+◌, arith}
use Rattle.cell_lower.proofs.lowerer.Lowerer.end_bare.Goals as goal

pub loop-register-preserved : goal.loop-register-preserved
loop-register-preserved c = record {
  given_up = gives_up_on _ _ _ c.loop-register.invariant.given_up c.in_ok-end_one.ensures.given_up;
  loses = loses_on _ _ _ c.loop-register.invariant.loses c.in_ok-end_one.ensures.loses;
  sheds = sheds_on _ _ _ _ _ _ c.loop-register.invariant.sheds c.in_ok-end_one.ensures.sheds;
  context = c.in_ok-end_one.ensures.context ∙ c.loop-register.invariant.context;
  gives_up = c.in_ok-end_one.ensures.gives_up ∙ c.loop-register.invariant.gives_up;
  walk = c.in_ok-end_one.ensures.walk ∙ c.loop-register.invariant.walk;
  laid = laid_on true _ _ _ _ _ _ c.loop-register.invariant.laid c.in_ok-end_one.ensures.laid;
  bares = bares_next c.loop-register.self.frame c.end_one.new.self.frame c.loop-register.register (c.loop-register.register + 1) (omega arith) c.in_ok-end_one.ensures.loses c.in_ok-end_one.ensures.bare c.loop-register.invariant.bares;
}
