use Rattle.std.proofs.Common.{rules, arith, ◌∙◌, ◌+◌}
use Rattle.std.proofs.lemmas.Option.{slice_get-get_or}
use Rattle.lower_parts.specs.Writing.{setting}
use Rattle.lower_parts.proofs.Calling.{received_to}
use Rattle.cell_lower.proofs.lowerer.Lowerer.receive.Goals as goal

pub loop-ty-preserved : goal.loop-ty-preserved
loop-ty-preserved c = record {
  place = search rules;
  received = received_to (setting c.args.self.now.context.now) c.loop-ty.self.frame c.receive_one.new.self.frame c.args.types.now c.args.destinations.now c.loop-ty.ty-index c.loop-ty.place (c.loop-ty.place + 1) _ c.loop-ty.invariant.place (omega arith) (slice_get-get_or c.args.types.now c.loop-ty.ty-index 0 c.loop-ty-test.true) (rw (c.loop-ty.invariant.context) at c.receive_one.ensures.received) ∙ c.loop-ty.invariant.received;
  context = c.receive_one.ensures.context ∙ c.loop-ty.invariant.context;
  gives_up = c.receive_one.ensures.gives_up ∙ c.loop-ty.invariant.gives_up;
  walk = c.receive_one.ensures.walk ∙ c.loop-ty.invariant.walk;
  buffer = c.receive_one.ensures.buffer ∙ c.loop-ty.invariant.buffer;
}
