use Rattle.std.proofs.Common.{◌≡◌, ◌≤◌, ◌+◌, ℕ, drop}
use Rattle.fip_trees.specs.Sizes.{number}
use Rattle.derivation_check.specs.Owned.{amount, RisingSizes}
use Rattle.derivation_check.proofs.counts.Counts.of.Given as goal

-- what was counted, and what is to come, whose sizes are greater
abbrev pub invariant-loop-credit : goal.invariant-loop-credit
invariant-loop-credit l = (least : ℕ) × RisingSizes least (drop l.credit-index l.credits) × ((k : ℕ) → least ≤ k → number l.counts.counts k ≡ 0) × ((k : ℕ) → number l.counts.counts k + amount k (drop l.credit-index l.credits) ≡ amount k l.credits)
