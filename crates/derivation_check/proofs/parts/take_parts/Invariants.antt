use Rattle.std.proofs.Common.{◌≡◌, ◌+◌, ℕ}
use Rattle.fip_trees.specs.Sizes.{number}
use Rattle.ownership_calculus.specs.Terms.{Credit}
use Rattle.derivation_check.specs.Owned.{roots}
use Rattle.derivation_check.specs.Places.{parts}
use Rattle.derivation_check.proofs.parts.take_parts.Given as goal

abbrev pub decreases-loop-left : goal.decreases-loop-left
decreases-loop-left l = l.left

abbrev pub invariant-loop-left : goal.invariant-loop-left
invariant-loop-left l = (k : ℕ) → number l.initial.counts.counts k + roots (parts l.nodes l.place l.left) (Credit k) ≡ roots (parts l.nodes l.first l.count) (Credit k) + number l.counts.counts k
