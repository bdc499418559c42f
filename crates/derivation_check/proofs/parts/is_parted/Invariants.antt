use Rattle.std.proofs.Common.{◌≡◌, ◌<◌, ◌+◌, ◌-◌, ℕ, length, get_or}
use Rattle.ownership_calculus.specs.Terms.{Own, given}
use Rattle.derivation_check.specs.Owned.{roots}
use Rattle.derivation_check.specs.Places.{parts}
use Rattle.derivation_check.proofs.parts.is_parted.Given as goal

abbrev pub decreases-loop-start : goal.decreases-loop-start
decreases-loop-start l = length l.whole - l.start

abbrev pub invariant-loop-start : goal.invariant-loop-start
invariant-loop-start l = (k : ℕ) → k < l.start → k < length l.whole → roots (parts l.nodes l.first l.count) (Own (get_or l.whole k 0)) ≡ 1
