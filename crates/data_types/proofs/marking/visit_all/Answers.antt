use Rattle.data_types.specs.View as v
use Rattle.data_types.proofs.Stepping.{goes_then}
use Rattle.data_types.proofs.marking.visit_all.Goals as goal

pub loop-i-preserved : goal.loop-i-preserved
loop-i-preserved c = goes_then (v.declarations c.args.declared.now) c.args.claims.now c.loop-i.claims c.visit.new.claims c.loop-i.invariant c.in_ok-visit-in-Some.ensures.step.goes
