use Rattle.std.proofs.Common.{◌∙◌, ◌+◌, false, arith}
use Rattle.lower_parts.proofs.lowering_relation.Placing.{gives_up_on}
use Rattle.lower_parts.proofs.lower_frame.Losing.{loses_on}
use Rattle.lower_parts.proofs.Shedding.{sheds_on}
use Rattle.lower_parts.proofs.Laying.{laid_on}
use Rattle.lower_parts.proofs.Leaving.{drops_done, drops_next}
use Rattle.cell_lower.proofs.lowerer.Lowerer.drop_but.Goals as goal

pub loop-register-preserved : goal.loop-register-preserved
loop-register-preserved c = record {
  given_up = gives_up_on _ _ _ c.loop-register.invariant.given_up c.in_ok-drop_unless.ensures.given_up;
  loses = loses_on _ _ _ c.loop-register.invariant.loses c.in_ok-drop_unless.ensures.loses;
  sheds = sheds_on _ _ _ _ _ _ c.loop-register.invariant.sheds c.in_ok-drop_unless.ensures.sheds;
  context = c.in_ok-drop_unless.ensures.context ∙ c.loop-register.invariant.context;
  gives_up = c.in_ok-drop_unless.ensures.gives_up ∙ c.loop-register.invariant.gives_up;
  walk = c.in_ok-drop_unless.ensures.walk ∙ c.loop-register.invariant.walk;
  laid = laid_on false _ _ _ _ _ _ c.loop-register.invariant.laid c.in_ok-drop_unless.ensures.laid;
  drops = drops_next c.args.entry.now c.args.used.now c.args.given.now c.loop-register.register (c.loop-register.register + 1) c.stays.result c.args.self.now.frame c.loop-register.self.frame c.drop_unless.new.self.frame (omega arith) c.stays.ensures c.loop-register.invariant.drops c.in_ok-drop_unless.ensures.drops;
}

pub returns-clause-drops : goal.returns-clause-drops
returns-clause-drops c = drops_done c.args.entry.now c.args.used.now c.args.given.now c.loop-register.register c.args.self.now.frame.next c.args.self.now.frame c.loop-register.self.frame (omega arith) c.loop-register.invariant.drops
