use Rattle.std.proofs.Common.{◌≡◌, map, drop}
use Rattle.fip_base.specs.CoreView.{pattern, patterns_of}
use Rattle.fip_trees.specs.Least.{after}
use Rattle.data_types.specs.Faults.{patterns_faults}
use Rattle.data_types.proofs.bodies.+patterns.Given as goal

abbrev pub invariant-check_patterns-loop-pattern : goal.invariant-check_patterns-loop-pattern
invariant-check_patterns-loop-pattern l = after l.least (patterns_faults l.scope (patterns_of (map pattern (drop l.pattern-index l.patterns)))) ≡ after l.initial.least (patterns_faults l.scope (patterns_of (map pattern l.patterns)))
