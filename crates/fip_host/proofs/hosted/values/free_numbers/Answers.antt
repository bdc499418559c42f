use Rattle.std.proofs.Common.{arith}
use Rattle.fip_host.proofs.hosted.values.free_numbers.Goals as goal

pub loop-slot-init : goal.loop-slot-init
loop-slot-init c = record { all = omega arith; few = omega arith }
