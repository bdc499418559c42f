use Rattle.std.proofs.Common.{◌<◌}
use Rattle.derivation_check.specs.Owned.{AreOwned}
use Rattle.derivation_check.specs.Places.{parts}
use Rattle.derivation_check.proofs.nodes.are_owned.Given as goal

abbrev pub decreases-loop-left : goal.decreases-loop-left
decreases-loop-left l = l.left

abbrev pub invariant-loop-left : goal.invariant-loop-left
invariant-loop-left l = record {
  up : AreOwned l.below (parts l.nodes l.place l.left) → AreOwned l.below (parts l.nodes l.first l.count);
  down : AreOwned l.below (parts l.nodes l.first l.count) → AreOwned l.below (parts l.nodes l.place l.left);
}
