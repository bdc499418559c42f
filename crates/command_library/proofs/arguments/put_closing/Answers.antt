use Rattle.std.proofs.Common.{◌∙◌}
use Rattle.command_library.proofs.Inputs.{closing_more}
use Rattle.command_library.proofs.arguments.put_closing.Goals as goal

pub loop-preserved : goal.loop-preserved
loop-preserved c = closing_more c.loop.text.items c.push.new.self.items c.args.count c.loop.counter c.loop-test.true c.in_ok-push.ensures.items ∙ c.loop.invariant
