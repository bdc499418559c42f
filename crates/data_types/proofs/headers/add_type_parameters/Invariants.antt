use Rattle.std.proofs.Common.{◌≡◌, map, drop}
use Rattle.fip_base.specs.CoreView.{static}
use Rattle.fip_trees.specs.Names.{with_meanings}
use Rattle.data_types.specs.Declarations.{static_meanings}
use Rattle.data_types.proofs.headers.add_type_parameters.Given as goal

abbrev pub invariant-loop-parameter : goal.invariant-loop-parameter
invariant-loop-parameter l = with_meanings l.parameters (static_meanings l.number (map static (drop l.parameter-index l.statics))) ≡ with_meanings l.initial.parameters (static_meanings 0 (map static l.statics))
