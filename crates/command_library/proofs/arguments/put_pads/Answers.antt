use Rattle.std.proofs.Common.{◌∙◌}
use Rattle.command_library.proofs.Inputs.{pad_more}
use Rattle.command_library.proofs.arguments.put_pads.Goals as goal

pub loop-preserved : goal.loop-preserved
loop-preserved c = pad_more c.loop.text.items c.extend_from_slice.new.self.items c.args.count c.loop.counter c.loop-test.true c.in_ok-extend_from_slice.ensures.items ∙ c.loop.invariant
