use Rattle.std.proofs.Common.{◌≡◌, length}
use Rattle.lower_frame.proofs.Meeting.{FirstHeld}
use Rattle.lower_frame.proofs.frame.held_by_both.Given as goal

abbrev pub invariant-loop-held : goal.invariant-loop-held
invariant-loop-held l = record {
  size : length l.both.items ≡ l.held-index;
  both : FirstHeld l.held-index l.here l.there l.both.items;
}
