use Rattle.std.proofs.Common.{◌+◌, arith}
use Rattle.lower_frame.proofs.Counting.{numbers_next}
use Rattle.lower_frame.proofs.frame.all_of.Goals as goal

pub loop-number-preserved : goal.loop-number-preserved
loop-number-preserved c = numbers_next c.loop-number.numbers.items c.push.new.self.items c.loop-number.number (c.loop-number.number + 1) (omega arith) c.loop-number.invariant c.in_ok-push.ensures.items
