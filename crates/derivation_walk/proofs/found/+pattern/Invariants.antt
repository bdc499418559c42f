use Rattle.std.proofs.Common.{◌≡◌, drop}
use Rattle.fip_trees.specs.TreeView.{patterns}
use Rattle.derivation_walk.specs.Seen.{world_of, seen_of, bind_patterns}
use Rattle.derivation_walk.proofs.found.+pattern.Given as goal

abbrev pub invariant-bind_patterns-loop-pattern : goal.invariant-bind_patterns-loop-pattern
invariant-bind_patterns-loop-pattern l = bind_patterns (world_of l.context) (seen_of l.found) (patterns (drop l.pattern-index l.patterns)) ≡ bind_patterns (world_of l.context) (seen_of l.initial.found) (patterns l.patterns)
