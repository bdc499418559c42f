use Rattle.data_types.specs.View as v
use Rattle.data_types.proofs.Stepping.{goes_then}
use Rattle.data_types.proofs.valued.settle_in_order.Goals as goal

pub loop-place-preserved : goal.loop-place-preserved
loop-place-preserved c = goes_then (v.declarations c.args.declared.now) c.args.claims.now c.loop-place.claims c.settle.new.claims c.loop-place.invariant c.in_ok-settle.ensures.step.goes
