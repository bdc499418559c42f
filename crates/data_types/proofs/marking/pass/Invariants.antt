use Rattle.std.proofs.Common.{◌-◌}
use Rattle.data_types.specs.View as v
use Rattle.data_types.proofs.Stepping.{Passing}
use Rattle.data_types.proofs.marking.pass.Given as goal

abbrev pub invariant-loop-place : goal.invariant-loop-place
invariant-loop-place l = Passing (v.declarations l.declared) l.initial.claims l.claims l.changed l.place

abbrev pub decreases-loop-place : goal.decreases-loop-place
decreases-loop-place l = 9223372036854775808 - l.place
