use Rattle.std.proofs.Common.{◌≡◌, ◌-◌}
use Rattle.derivation_trees.specs.Building.{built}
use Rattle.derivation_walk.specs.Growing.{closed_times}
use Rattle.derivation_walk.proofs.make.close.Given as goal

abbrev pub invariant-loop-i : goal.invariant-loop-i
invariant-loop-i l = record {
  closed : closed_times (l.nodes - l.i) (built l.walk.nodes) ≡ closed_times l.nodes (built l.fn.walk.nodes);
  next : l.walk.next ≡ l.fn.walk.next;
  room : l.walk.room ≡ l.fn.walk.room;
}
