use Rattle.std.proofs.Common.{◌≡◌, true, ◌++◌, map, drop}
use Rattle.fip_base.specs.CoreView.{data_constructor}
use Rattle.fip_trees.specs.Least.{after}
use Rattle.data_types.specs.Declarations.{constructor_fields, constructor_name}
use Rattle.data_types.specs.Faults.{field_faults}
use Rattle.data_types.specs.Numbered.{all_true, row_numbered, HasNumbers}
use Rattle.data_types.specs.View.{fields}
use Rattle.data_types.proofs.types.constructors_of.Given as goal

abbrev pub invariant-loop-constructor : goal.invariant-loop-constructor
invariant-loop-constructor l = record {
  fields : map fields l.constructors.items ++ map (constructor_fields l.scope) (map data_constructor (drop l.constructor-index l.list)) ≡ map (constructor_fields l.scope) (map data_constructor l.list);
  names : map (λ k. k.name.now) l.constructors.items ++ map constructor_name (map data_constructor (drop l.constructor-index l.list)) ≡ map constructor_name (map data_constructor l.list);
  numbered : HasNumbers l.scope.names → all_true (map row_numbered l.constructors.items) ≡ true;
  faults : after l.least (field_faults l.scope (map data_constructor (drop l.constructor-index l.list))) ≡ after l.initial.least (field_faults l.scope (map data_constructor l.list));
}
