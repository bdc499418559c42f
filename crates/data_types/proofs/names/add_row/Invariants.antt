use Rattle.std.proofs.Common.{◌≡◌, map, drop}
use Rattle.fip_base.specs.CoreView.{data_constructor}
use Rattle.fip_trees.specs.Least.{after}
use Rattle.fip_trees.specs.Names.{names, with_meanings}
use Rattle.data_types.specs.Declarations.{row_meanings}
use Rattle.data_types.specs.Faults.{repeats, row_mentions}
use Rattle.data_types.proofs.names.add_row.Given as goal

abbrev pub invariant-loop-constructor : goal.invariant-loop-constructor
invariant-loop-constructor l = record {
  constructors : with_meanings l.names.constructors (row_meanings l.owner l.number (map data_constructor (drop l.constructor-index l.constructors))) ≡ with_meanings l.initial.names.constructors (row_meanings l.owner 0 (map data_constructor l.constructors));
  types : l.names.types ≡ l.initial.names.types;
  functions : l.names.functions ≡ l.initial.names.functions;
  faults : after l.least (repeats (names l.names.constructors) (row_mentions (map data_constructor (drop l.constructor-index l.constructors)))) ≡ after l.initial.least (repeats (names l.initial.names.constructors) (row_mentions (map data_constructor l.constructors)));
}
