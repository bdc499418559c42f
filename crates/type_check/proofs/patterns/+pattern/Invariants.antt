use Rattle.std.proofs.Common.{◌≡◌, ◌++◌, drop}
use Rattle.fip_trees.specs.Least.{after}
use Rattle.fip_trees.specs.TreeView.{patterns}
use Rattle.type_check.specs.Wanted.{types_of}
use Rattle.type_check.specs.Typing.{bound_by_all}
use Rattle.type_check.specs.Faults.{fill_patterns, patterns_faults}
use Rattle.type_check.proofs.Halves.{Patterns_half}
use Rattle.type_check.proofs.patterns.+pattern.Given as goal

abbrev pub invariant-check_patterns-loop-pattern : goal.invariant-check_patterns-loop-pattern
invariant-check_patterns-loop-pattern l = record {
  unvisited : goal.unvisited-check_patterns-loop-pattern l;
  index : l.index ≡ l.pattern-index;
  tree : Patterns_half l.walk.tables.now (types_of l.wants) l.pattern-index l.patterns ≡ fill_patterns l.walk.tables.now (types_of l.wants) (patterns l.initial.patterns);
  scope : l.scope ++ bound_by_all l.walk.tables.now (drop l.pattern-index (types_of l.wants)) (patterns (drop l.pattern-index l.patterns)) ≡ l.initial.scope ++ bound_by_all l.walk.tables.now (types_of l.wants) (patterns l.initial.patterns);
  faults : after l.least (patterns_faults l.walk.tables.now l.walk.instance (drop l.pattern-index (types_of l.wants)) (patterns (drop l.pattern-index l.patterns))) ≡ after l.initial.least (patterns_faults l.walk.tables.now l.walk.instance (types_of l.wants) (patterns l.initial.patterns));
}
