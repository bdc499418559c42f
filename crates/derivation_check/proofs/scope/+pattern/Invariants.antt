use Rattle.std.proofs.Common.{◌≡◌, drop}
use Rattle.fip_trees.specs.TreeView.{patterns}
use Rattle.fip_rules.specs.Shapes.{binders_all}
use Rattle.derivation_check.specs.ScopeView.{first}
use Rattle.derivation_check.proofs.scope.+pattern.Given as goal

abbrev pub invariant-in_patterns-loop-pattern : goal.invariant-in_patterns-loop-pattern
invariant-in_patterns-loop-pattern l = first (binders_all (patterns l.patterns)) l.number ≡ first (binders_all (patterns (drop l.pattern-index l.patterns))) l.number
