use Rattle.data_types.specs.View as v
use Rattle.data_types.proofs.Stepping.{goes_then}
use Rattle.data_types.proofs.marking.run.Goals as goal

pub loop-changed-preserved : goal.loop-changed-preserved
loop-changed-preserved c = goes_then (v.declarations c.args.declared.now) c.args.claims.now c.loop-changed.claims c.pass.new.claims c.loop-changed.invariant c.in_ok-changed.ensures.step.goes

pub returns-then-not-changed-clause-done : goal.returns-then-not-changed-clause-done
returns-then-not-changed-clause-done c = c.in_ok-changed.ensures.done c.if-not-changed.true
