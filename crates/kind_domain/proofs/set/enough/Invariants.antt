use Rattle.std.proofs.Common.{◌<◌, ◌-◌, length}
use Rattle.kind_domain.proofs.set.enough.Given as goal

abbrev pub invariant-loop-end : goal.invariant-loop-end
invariant-loop-end l = record { some : 0 < l.end }

abbrev pub decreases-loop-end : goal.decreases-loop-end
decreases-loop-end l = length l.numbers - l.end
