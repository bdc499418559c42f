use Rattle.data_types.specs.View as v
use Rattle.data_types.specs.Marks.{room}
use Rattle.data_types.specs.Steps.{Goes}
use Rattle.data_types.proofs.marking.run.Given as goal

abbrev pub invariant-loop-changed : goal.invariant-loop-changed
invariant-loop-changed l = Goes (v.declarations l.declared) l.initial.claims l.claims

abbrev pub decreases-loop-changed : goal.decreases-loop-changed
decreases-loop-changed l = room l.claims
