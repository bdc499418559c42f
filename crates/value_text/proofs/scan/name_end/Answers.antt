use Rattle.std.proofs.Common.{arith}
use Rattle.value_text.proofs.Runs.{name_more}
use Rattle.value_text.proofs.scan.name_end.Goals as goal

pub loop-i-preserved : goal.loop-i-preserved
loop-i-preserved c = name_more c.args.bytes.now c.args.at c.loop-i.i (let h = c.loop-i.auto.i in omega (arith, h)) (let h = c.loop-i-test.true in omega (arith, h)) c.loop-i.invariant (let h = c.if-not-name_byte.false in let k = c.name_byte.ensures in cc)
