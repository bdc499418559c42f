use Rattle.std.proofs.Common.{◌≡◌, map, drop}
use Rattle.fip_base.specs.CoreView.{function}
use Rattle.fip_trees.specs.Least.{after}
use Rattle.fip_trees.specs.Names.{names, with_meanings}
use Rattle.data_types.specs.Declarations.{function_meanings}
use Rattle.data_types.specs.Faults.{repeats, function_mentions}
use Rattle.data_types.proofs.names.add_functions.Given as goal

abbrev pub invariant-loop-function : goal.invariant-loop-function
invariant-loop-function l = record {
  index : l.place ≡ l.function-index;
  functions : with_meanings l.names.functions (function_meanings l.place (map function (drop l.function-index l.functions))) ≡ with_meanings l.initial.names.functions (function_meanings 0 (map function l.functions));
  types : l.names.types ≡ l.initial.names.types;
  constructors : l.names.constructors ≡ l.initial.names.constructors;
  faults : after l.least (repeats (names l.names.functions) (function_mentions (map function (drop l.function-index l.functions)))) ≡ after l.initial.least (repeats (names l.initial.names.functions) (function_mentions (map function l.functions)));
}
