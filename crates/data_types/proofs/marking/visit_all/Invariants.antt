use Rattle.data_types.specs.View as v
use Rattle.data_types.specs.Steps.{Goes}
use Rattle.data_types.proofs.marking.visit_all.Given as goal

abbrev pub invariant-loop-i : goal.invariant-loop-i
invariant-loop-i l = Goes (v.declarations l.declared) l.initial.claims l.claims
