use Rattle.std.proofs.Common.{arith}
use Rattle.value_text.proofs.Names.{begins_more, begins_short, begins_unlike}
use Rattle.value_text.proofs.scan.common.Goals as goal

pub returns-then-i-other-clause-longest : goal.returns-then-i-other-clause-longest
returns-then-i-other-clause-longest c = λ lt. begins_short c.args.text.now c.args.other.now c.loop-i.i lt (let h = c.if-i-other.true in omega (arith, h))

pub returns-then-text-i-clause-longest : goal.returns-then-text-i-clause-longest
returns-then-text-i-clause-longest c = λ lt. begins_unlike c.args.text.now c.args.other.now c.loop-i.i lt (let h = c.if-i-other.false in omega (arith, h)) c.if-text-i.true

pub loop-i-preserved : goal.loop-i-preserved
loop-i-preserved c = begins_more c.args.text.now c.args.other.now c.loop-i.i (let h = c.loop-i-test.true in omega (arith, h)) (let h = c.if-i-other.false in omega (arith, h)) c.if-text-i.false c.loop-i.invariant
