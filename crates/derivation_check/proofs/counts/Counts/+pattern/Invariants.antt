use Rattle.std.proofs.Common.{◌≡◌, ◌+◌, ℕ, drop}
use Rattle.fip_trees.specs.Sizes.{number}
use Rattle.fip_trees.specs.TreeView.{patterns}
use Rattle.derivation_check.specs.Patterns.{nodes_all}
use Rattle.derivation_check.proofs.counts.Counts.+pattern.Given as goal

abbrev pub invariant-take_given_all-loop-pattern : goal.invariant-take_given_all-loop-pattern
invariant-take_given_all-loop-pattern l = (k : ℕ) → number l.initial.self.counts k + nodes_all k (patterns (drop l.pattern-index l.patterns)) ≡ nodes_all k (patterns l.patterns) + number l.self.counts k
