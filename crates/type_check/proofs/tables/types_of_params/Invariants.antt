use Rattle.std.proofs.Common.{◌≡◌, ◌++◌, map, drop}
use Rattle.type_check.specs.World.{type_of}
use Rattle.type_check.proofs.tables.types_of_params.Given as goal

abbrev pub invariant-loop-param : goal.invariant-loop-param
invariant-loop-param l = l.types.items ++ map type_of (drop l.param-index l.params) ≡ map type_of l.params
