use Rattle.data_types.specs.View as v
use Rattle.data_types.specs.Steps.{Goes}
use Rattle.data_types.proofs.valued.settle_in_order.Given as goal

abbrev pub invariant-loop-place : goal.invariant-loop-place
invariant-loop-place l = Goes (v.declarations l.declared) l.initial.claims l.claims
