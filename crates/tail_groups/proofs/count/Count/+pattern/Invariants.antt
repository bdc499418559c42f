use Rattle.std.proofs.Common.{◌≡◌, ◌+◌, drop}
use Rattle.fip_trees.specs.TreeView.{patterns}
use Rattle.tail_groups.specs.Registers.{in_patterns}
use Rattle.tail_groups.proofs.count.Count.+pattern.Given as goal

abbrev pub invariant-patterns-loop-pattern : goal.invariant-patterns-loop-pattern
invariant-patterns-loop-pattern l =
    l.self.number + in_patterns (patterns (drop l.pattern-index l.patterns)) ≡ l.initial.self.number + in_patterns (patterns l.patterns)
