use Rattle.std.proofs.Common.{◌∙◌}
use Rattle.command_library.proofs.Inputs.{key_more}
use Rattle.command_library.proofs.arguments.put_keys.Goals as goal

pub loop-preserved : goal.loop-preserved
loop-preserved c = key_more c.loop.text.items c.put_key.new.text.items c.args.count c.loop.counter c.loop.key c.next_key-key.result c.loop-test.true c.next_key-key.ensures.next c.in_ok-put_key.ensures.put ∙ c.loop.invariant
