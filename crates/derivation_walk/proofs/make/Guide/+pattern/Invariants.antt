use Rattle.std.proofs.Common.{◌≡◌, drop}
use Rattle.fip_trees.specs.TreeView.{patterns}
use Rattle.derivation_walk.specs.Guides.{guided}
use Rattle.derivation_walk.specs.Walked.{bound_patterns}
use Rattle.derivation_walk.proofs.make.Guide.+pattern.Given as goal

abbrev pub invariant-bind_patterns-loop-pattern : goal.invariant-bind_patterns-loop-pattern
invariant-bind_patterns-loop-pattern l = bound_patterns (guided l.self) l.variables.items (patterns (drop l.pattern-index l.patterns)) ≡ bound_patterns (guided l.self) l.initial.variables.items (patterns l.patterns)
