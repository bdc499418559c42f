use Rattle.std.proofs.Common.{◌≡◌, drop}
use Rattle.code_tables.specs.Apart.{none_met, is_any_name, apart, shape_names, met_in}
use Rattle.code_tables.proofs.tables.are_apart.Given as goal

abbrev pub invariant-loop-constructor : goal.invariant-loop-constructor
invariant-loop-constructor l = apart is_any_name (met_in l.names.names) (shape_names (drop l.constructor-index l.constructors)) ≡ apart is_any_name none_met (shape_names l.constructors)
