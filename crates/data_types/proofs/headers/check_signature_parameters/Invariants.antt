use Rattle.std.proofs.Common.{◌≡◌, map, drop}
use Rattle.fip_base.specs.CoreView.{signature_parameter}
use Rattle.fip_trees.specs.Least.{after}
use Rattle.data_types.specs.Faults.{signature_parameters_faults}
use Rattle.data_types.proofs.headers.check_signature_parameters.Given as goal

abbrev pub invariant-loop-parameter : goal.invariant-loop-parameter
invariant-loop-parameter l = after l.least (signature_parameters_faults l.scope (map signature_parameter (drop l.parameter-index l.parameters))) ≡ after l.initial.least (signature_parameters_faults l.scope (map signature_parameter l.parameters))
