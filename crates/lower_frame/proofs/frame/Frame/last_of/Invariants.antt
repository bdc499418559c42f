use Rattle.std.proofs.Common.{◌-◌, length}
use Rattle.lower_frame.specs.Credits.{NoneBetween}
use Rattle.lower_frame.proofs.frame.Frame.last_of.Given as goal

abbrev pub invariant-loop-following : goal.invariant-loop-following
invariant-loop-following l = NoneBetween (length l.self.credits - l.following) (length l.self.credits) l.self.held l.self.credits l.size
