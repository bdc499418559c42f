use Rattle.std.proofs.Common.{◌≡◌, drop}
use Rattle.fip_trees.specs.Least.{after}
use Rattle.fip_trees.specs.TreeView.{arguments}
use Rattle.type_check.specs.Wanted.{expects, types_of}
use Rattle.type_check.specs.Faults.{fill_arguments, arguments_faults}
use Rattle.type_check.proofs.Halves.{Arguments_half}
use Rattle.type_check.proofs.arguments.+argument.Given as goal

abbrev pub invariant-check_arguments-loop-argument : goal.invariant-check_arguments-loop-argument
invariant-check_arguments-loop-argument l = record {
  unvisited : goal.unvisited-check_arguments-loop-argument l;
  index : l.index ≡ l.argument-index;
  tree : Arguments_half l.walk.tables.now (expects l.wants) (types_of l.wants) l.argument-index l.arguments ≡ fill_arguments l.walk.tables.now (expects l.wants) (types_of l.wants) (arguments l.initial.arguments);
  faults : after l.least (arguments_faults l.walk.tables.now l.walk.instance l.scope (expects l.wants) (drop l.argument-index (types_of l.wants)) (arguments (drop l.argument-index l.arguments))) ≡ after l.initial.least (arguments_faults l.walk.tables.now l.walk.instance l.scope (expects l.wants) (types_of l.wants) (arguments l.initial.arguments));
}
