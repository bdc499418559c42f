use Rattle.std.proofs.Common.{◌≡◌, map, drop}
use Rattle.fip_base.specs.CoreView.{type_name}
use Rattle.fip_trees.specs.Least.{after}
use Rattle.fip_trees.specs.Names.{names, with_meanings}
use Rattle.data_types.specs.Declarations.{parameter_meanings}
use Rattle.data_types.specs.Faults.{repeats, type_name_mentions}
use Rattle.data_types.proofs.types.add_parameters.Given as goal

abbrev pub invariant-loop-parameter : goal.invariant-loop-parameter
invariant-loop-parameter l = record {
  parameters : with_meanings l.parameters (parameter_meanings l.number (map type_name (drop l.parameter-index l.list))) ≡ with_meanings l.initial.parameters (parameter_meanings 0 (map type_name l.list));
  faults : after l.least (repeats (names l.parameters) (type_name_mentions (map type_name (drop l.parameter-index l.list)))) ≡ after l.initial.least (repeats (names l.initial.parameters) (type_name_mentions (map type_name l.list)));
}
