use Rattle.std.proofs.Common.{◌≡◌, ◌++◌, drop}
use Rattle.data_types.specs.Steps.{has_values}
use Rattle.data_types.proofs.found.values_of.Given as goal

abbrev pub invariant-loop-one : goal.invariant-loop-one
invariant-loop-one l = l.values.items ++ has_values (drop l.one-index l.found) ≡ has_values l.found
