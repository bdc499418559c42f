use Rattle.data_types.specs.View as v
use Rattle.data_types.specs.Marks.{left}
use Rattle.data_types.specs.Steps.{Goes}
use Rattle.data_types.proofs.marking.drain.Given as goal

abbrev pub invariant-loop-place : goal.invariant-loop-place
invariant-loop-place l = Goes (v.declarations l.declared) l.initial.claims l.claims

abbrev pub decreases-loop-place : goal.decreases-loop-place
decreases-loop-place l = left l.claims
