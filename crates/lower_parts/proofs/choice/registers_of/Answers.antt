use Rattle.std.proofs.Common.{arith, ◌+◌}
use Rattle.fip_trees.specs.TreeView.{patterns}
use Rattle.lower_frame.specs.lowering_relation.Opening.{as_many}
use Rattle.lower_frame.specs.Positions.{spot_of, spots_of}
use Rattle.lower_parts.proofs.Folding.{many_next, item, spot_there, register_is}
use Rattle.lower_parts.proofs.choice.registers_of.Goals as goal

pub loop-place-preserved : goal.loop-place-preserved
loop-place-preserved c = many_next c.args.patterns.now (spots_of c.args.spots.now) c.loop-place.place (c.loop-place.place + 1) c.index-patterns-place.result (spot_of c.in_ok-spot.spot.now) _ c.loop-place.registers c.push.new.self (as_many (patterns c.args.patterns.now) (spots_of c.args.spots.now)) (omega arith) (item c.args.patterns.now c.loop-place.place c.index-patterns-place.result c.loop-place-test.true c.index-patterns-place.is) (spot_there c.args.spots.now c.loop-place.place c.in_ok-spot.spot.now c.in_ok-spot.ensures.there) (register_is c.in_ok-spot.spot.now) c.in_ok-push.ensures.added c.loop-place.invariant
