use Rattle.std.proofs.Common.{◌≡◌, ◌<◌, ℕ}
use Rattle.fip_trees.specs.Sizes.{number}
use Rattle.derivation_check.proofs.counts.Counts.is_empty.Given as goal

abbrev pub invariant-loop-k : goal.invariant-loop-k
invariant-loop-k l = (k : ℕ) → k < l.k → number l.self.counts k ≡ 0
