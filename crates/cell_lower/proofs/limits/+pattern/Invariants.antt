use Rattle.std.proofs.Common.{◌≡◌, drop}
use Rattle.fip_trees.specs.TreeView.{patterns}
use Rattle.cell_lower.specs.Limits as L
use Rattle.cell_lower.proofs.limits.+pattern.Given as goal

abbrev pub invariant-wide_patterns-loop-pattern : goal.invariant-wide_patterns-loop-pattern
invariant-wide_patterns-loop-pattern l = L.wide_patterns l.types (patterns (drop l.pattern-index l.patterns)) ≡ L.wide_patterns l.types (patterns l.patterns)
