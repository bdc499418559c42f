use Rattle.std.proofs.Common.{rules, arith, ◌∙◌, ◌+◌}
use Rattle.std.proofs.lemmas.Option.{slice_get-get_or}
use Rattle.lower_parts.proofs.Calling.{handed_to}
use Rattle.cell_lower.proofs.lowerer.Lowerer.hand_over.Goals as goal

pub loop-param-preserved : goal.loop-param-preserved
loop-param-preserved c = record {
  place = search rules;
  handed = handed_to c.loop-param.self.frame c.hand_one.new.self.frame c.args.params.now c.args.registers.now c.loop-param.param-index c.loop-param.place (c.loop-param.place + 1) _ c.loop-param.invariant.place (omega arith) (slice_get-get_or c.args.params.now c.loop-param.param-index _ c.loop-param-test.true) c.hand_one.ensures.handed ∙ c.loop-param.invariant.handed;
  context = c.hand_one.ensures.context ∙ c.loop-param.invariant.context;
  walk = c.hand_one.ensures.walk ∙ c.loop-param.invariant.walk;
  gives_up = c.hand_one.ensures.gives_up ∙ c.loop-param.invariant.gives_up;
  buffer = c.hand_one.ensures.buffer ∙ c.loop-param.invariant.buffer;
}
