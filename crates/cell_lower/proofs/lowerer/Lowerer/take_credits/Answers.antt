use Rattle.std.proofs.Common.{arith, ◌∙◌, ◌+◌}
use Rattle.std.proofs.lemmas.Option.{slice_get-get_or}
use Rattle.lower_parts.proofs.Calling.{takes_done, takes_to}
use Rattle.cell_lower.proofs.lowerer.Lowerer.take_credits.Goals as goal

pub loop-size-preserved : goal.loop-size-preserved
loop-size-preserved c = record {
  rest = takes_to c.args.self.now.frame c.args.sizes.now c.args.registers.now.items c.loop-size.self.frame c.take_one.new.self.frame c.args.sizes.now c.loop-size.registers.items c.take_one.new.registers.items c.loop-size.size-index (c.loop-size.size-index + 1) _ (omega arith) (slice_get-get_or c.args.sizes.now c.loop-size.size-index 0 c.loop-size-test.true) c.loop-size.invariant.rest c.in_ok-take_one.ensures.taken;
  context = c.in_ok-take_one.ensures.context ∙ c.loop-size.invariant.context;
  walk = c.in_ok-take_one.ensures.walk ∙ c.loop-size.invariant.walk;
  gives_up = c.in_ok-take_one.ensures.gives_up ∙ c.loop-size.invariant.gives_up;
  buffer = c.in_ok-take_one.ensures.buffer ∙ c.loop-size.invariant.buffer;
}

pub returns-clause-taken : goal.returns-clause-taken
returns-clause-taken c = takes_done c.args.self.now.frame c.args.sizes.now c.args.registers.now.items c.loop-size.self.frame c.args.sizes.now c.loop-size.registers.items c.loop-size.size-index (omega (arith, c.loop-size-test.false)) c.loop-size.invariant.rest
