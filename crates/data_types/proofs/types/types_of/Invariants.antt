use Rattle.std.proofs.Common.{◌≡◌, true, ◌∷◌, ◌++◌, map, drop}
use Rattle.fip_language.specs.Declarations.{bool_type}
use Rattle.fip_base.specs.CoreView.{data_type}
use Rattle.fip_trees.specs.Least.{after}
use Rattle.data_types.specs.Answers.{declared_row_names}
use Rattle.data_types.specs.Declarations.{data_declared, row_names}
use Rattle.data_types.specs.Faults.{all_data_faults}
use Rattle.data_types.specs.Numbered.{types_numbered, HasNumbers}
use Rattle.data_types.specs.View.{declarations}
use Rattle.data_types.proofs.types.types_of.Given as goal

abbrev pub invariant-loop-data : goal.invariant-loop-data
invariant-loop-data l = record {
  types : declarations l.types.items ++ map (data_declared l.names) (map data_type (drop l.data-index l.declared)) ≡ map (data_declared l.names) (bool_type ∷ map data_type l.declared);
  names : map declared_row_names l.types.items ++ map row_names (map data_type (drop l.data-index l.declared)) ≡ map row_names (bool_type ∷ map data_type l.declared);
  numbered : HasNumbers l.names → types_numbered l.types.items ≡ true;
  faults : after l.least (all_data_faults l.names (map data_type (drop l.data-index l.declared))) ≡ after l.initial.least (all_data_faults l.names (map data_type l.declared));
}
