use Rattle.std.proofs.Common.{◌≡◌, map, drop}
use Rattle.fip_base.specs.CoreView.{static}
use Rattle.fip_trees.specs.Least.{after}
use Rattle.data_types.specs.Faults.{signatures_faults}
use Rattle.data_types.proofs.headers.check_signatures.Given as goal

abbrev pub invariant-loop-parameter : goal.invariant-loop-parameter
invariant-loop-parameter l = after l.least (signatures_faults l.scope (map static (drop l.parameter-index l.statics))) ≡ after l.initial.least (signatures_faults l.scope (map static l.statics))
