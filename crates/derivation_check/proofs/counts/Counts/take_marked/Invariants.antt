use Rattle.std.proofs.Common.{◌≡◌, ◌+◌, ℕ, drop}
use Rattle.fip_trees.specs.Sizes.{number}
use Rattle.ownership_calculus.specs.Terms.{given}
use Rattle.derivation_check.proofs.counts.Counts.take_marked.Given as goal

abbrev pub invariant-loop-size : goal.invariant-loop-size
invariant-loop-size l = (k : ℕ) → number l.initial.self.counts k + given k (drop l.size-index l.sizes) ≡ given k l.sizes + number l.self.counts k
