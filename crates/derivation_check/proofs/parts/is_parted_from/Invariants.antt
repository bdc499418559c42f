use Rattle.std.proofs.Common.{◌≡◌, ◌<◌, ◌+◌, ◌-◌, ℕ, length, get_or}
use Rattle.derivation_check.specs.Places.{parts}
use Rattle.derivation_check.proofs.Windows.{WindowAt}
use Rattle.derivation_check.proofs.parts.is_parted_from.Given as goal

abbrev pub decreases-loop-left : goal.decreases-loop-left
decreases-loop-left l = l.left

abbrev pub invariant-loop-left : goal.invariant-loop-left
invariant-loop-left l = record {
  start : l.window.start ≡ l.start;
  window : WindowAt l.window.seen l.start l.whole (parts l.nodes l.place l.left) (parts l.nodes l.first l.count);
}
