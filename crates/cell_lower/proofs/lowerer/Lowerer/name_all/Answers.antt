use Rattle.std.proofs.Common.{rules, arith, ◌∙◌, ◌+◌}
use Rattle.lower_parts.proofs.lower_frame.Frames.{item}
use Rattle.lower_parts.proofs.Blocks.{named_to}
use Rattle.cell_lower.proofs.lowerer.Lowerer.name_all.Goals as goal

pub loop-binder-preserved : goal.loop-binder-preserved
loop-binder-preserved c = record {
  place = search rules;
  named = named_to c.loop-binder.self.frame c.name_one.new.self.frame c.args.binders.now c.args.registers.now c.loop-binder.binder-index c.loop-binder.place (c.loop-binder.place + 1) c.binder-item.result c.loop-binder.invariant.place (omega arith) (item c.args.binders.now c.loop-binder.binder-index c.binder-item.result c.loop-binder-test.true c.binder-item.is) c.name_one.ensures.named ∙ c.loop-binder.invariant.named;
  context = c.name_one.ensures.context ∙ c.loop-binder.invariant.context;
  gives_up = c.name_one.ensures.gives_up ∙ c.loop-binder.invariant.gives_up;
  walk = c.name_one.ensures.walk ∙ c.loop-binder.invariant.walk;
  buffer = c.name_one.ensures.buffer ∙ c.loop-binder.invariant.buffer;
}
