use Rattle.std.proofs.Common.{◌≡◌, ◌+◌, ℕ, drop}
use Rattle.fip_trees.specs.Sizes.{number}
use Rattle.derivation_check.specs.Owned.{amount}
use Rattle.derivation_check.proofs.counts.Counts.take_all.Given as goal

abbrev pub invariant-loop-credit : goal.invariant-loop-credit
invariant-loop-credit l = (k : ℕ) → number l.initial.self.counts k + amount k (drop l.credit-index l.credits) ≡ amount k l.credits + number l.self.counts k
