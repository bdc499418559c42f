use Rattle.std.proofs.Common.{◌≡◌, map, drop}
use Rattle.fip_base.specs.CoreView.{data_type}
use Rattle.fip_trees.specs.Least.{after}
use Rattle.fip_trees.specs.Names.{names, with_meanings}
use Rattle.data_types.specs.Declarations.{constructor_meanings}
use Rattle.data_types.specs.Faults.{repeats, constructor_mentions}
use Rattle.data_types.proofs.names.add_constructors.Given as goal

abbrev pub invariant-loop-data : goal.invariant-loop-data
invariant-loop-data l = record {
  constructors : with_meanings l.names.constructors (constructor_meanings l.number (map data_type (drop l.data-index l.types))) ≡ with_meanings l.initial.names.constructors (constructor_meanings 2 (map data_type l.types));
  types : l.names.types ≡ l.initial.names.types;
  functions : l.names.functions ≡ l.initial.names.functions;
  faults : after l.least (repeats (names l.names.constructors) (constructor_mentions (map data_type (drop l.data-index l.types)))) ≡ after l.initial.least (repeats (names l.initial.names.constructors) (constructor_mentions (map data_type l.types)));
}
