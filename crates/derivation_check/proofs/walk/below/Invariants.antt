use Rattle.std.proofs.Common.{◌-◌, length}
use Rattle.fip_rules.specs.World.{is_fip}
use Rattle.derivation_check.proofs.Weakened.{BelowAt}
use Rattle.derivation_check.proofs.walk.below.Given as goal

abbrev pub decreases-loop-node : goal.decreases-loop-node
decreases-loop-node l = length l.nodes - l.place

abbrev pub invariant-loop-node : goal.invariant-loop-node
invariant-loop-node l = BelowAt (is_fip l.kind) l.next l.nodes l.initial.place l.place
