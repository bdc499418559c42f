use Rattle.std.proofs.Common.{◌≡◌, length}
use Rattle.lower_frame.proofs.Meeting.{FirstNamed}
use Rattle.lower_frame.proofs.frame.named_by_both.Given as goal

abbrev pub invariant-loop-name : goal.invariant-loop-name
invariant-loop-name l = record {
  size : length l.both.items ≡ l.name-index;
  both : FirstNamed l.name-index l.here l.there l.both.items;
}
