use Rattle.std.proofs.Common.{arith}
use Rattle.fip_host.proofs.Needs.{first_frames}
use Rattle.fip_host.proofs.hosted.runs.largest_frame.Goals as goal

pub loop-function-init : goal.loop-function-init
loop-function-init c = record { most = first_frames c.args.functions.now; low = omega arith }
