use Rattle.std.proofs.Common.{◌≡◌, map, drop}
use Rattle.fip_base.specs.CoreView.{data_type}
use Rattle.fip_trees.specs.Least.{after}
use Rattle.fip_trees.specs.Names.{names, with_meanings}
use Rattle.data_types.specs.Declarations.{type_meanings}
use Rattle.data_types.specs.Faults.{repeats, type_mentions}
use Rattle.data_types.proofs.names.add_types.Given as goal

abbrev pub invariant-loop-data : goal.invariant-loop-data
invariant-loop-data l = record {
  types : with_meanings l.names.types (type_meanings l.number (map data_type (drop l.data-index l.types))) ≡ with_meanings l.initial.names.types (type_meanings 2 (map data_type l.types));
  constructors : l.names.constructors ≡ l.initial.names.constructors;
  functions : l.names.functions ≡ l.initial.names.functions;
  faults : after l.least (repeats (names l.names.types) (type_mentions (map data_type (drop l.data-index l.types)))) ≡ after l.initial.least (repeats (names l.initial.names.types) (type_mentions (map data_type l.types)));
}
