use Rattle.data_types.specs.View as v
use Rattle.data_types.proofs.Stepping.{Visiting}
use Rattle.data_types.proofs.marking.visit_claim.Given as goal

abbrev pub invariant-loop-number : goal.invariant-loop-number
invariant-loop-number l = Visiting (v.declarations l.declared) l.initial.claims l.claims l.changed l.place l.number
