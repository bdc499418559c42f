use Rattle.std.proofs.Common.{◌+◌, ◌-◌, arith}
use Rattle.derivation_trees.specs.Building.{built}
use Rattle.derivation_walk.specs.Growing.{closed_times}
use Rattle.derivation_walk.proofs.Growing.{close_next}
use Rattle.derivation_walk.proofs.make.close.Goals as goal

pub loop-i-preserved : goal.loop-i-preserved
loop-i-preserved c = record {
  closed = close_next (c.args.nodes - c.loop-i.i) (c.args.nodes - (c.loop-i.i + 1)) (closed_times c.args.nodes (built c.args.walk.now.nodes)) (built c.loop-i.walk.nodes) (built c.close.new.self) c.loop-i.invariant.closed (let t = c.loop-i-test.true in omega arith) c.close.ensures.closed;
  next = c.loop-i.invariant.next;
  room = c.loop-i.invariant.room;
}
