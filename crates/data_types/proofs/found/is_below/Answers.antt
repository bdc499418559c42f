use Rattle.std.proofs.Common.{arith}
use Rattle.data_types.proofs.Sets.{below_all}
use Rattle.data_types.proofs.found.is_below.Goals as goal

pub returns : goal.returns
returns c = λ e. below_all c.args.set.now c.args.other.now c.loop-place.place (let end = c.loop-place.auto.place-end in let test = c.loop-place-test.false in omega (arith, end, test)) c.loop-place.invariant
