use Rattle.std.proofs.Common.{◌≡◌, ◌-◌}
use Rattle.derivation_walk.specs.Walked.{same_from}
use Rattle.derivation_walk.proofs.credits.are_same.Given as goal

abbrev pub invariant-loop-size : goal.invariant-loop-size
invariant-loop-size l = same_from l.one l.other l.size (17 - l.size) ≡ same_from l.one l.other 1 16
