use Rattle.std.proofs.Common.{◌≡◌, map, drop}
use Rattle.fip_base.specs.CoreView.{parameter}
use Rattle.fip_trees.specs.Least.{after}
use Rattle.data_types.specs.Faults.{parameters_faults}
use Rattle.data_types.proofs.headers.check_parameters.Given as goal

abbrev pub invariant-loop-parameter : goal.invariant-loop-parameter
invariant-loop-parameter l = after l.least (parameters_faults l.scope (map parameter (drop l.parameter-index l.parameters))) ≡ after l.initial.least (parameters_faults l.scope (map parameter l.parameters))
