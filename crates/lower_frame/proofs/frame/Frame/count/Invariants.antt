use Rattle.std.proofs.Common.{◌≡◌, ◌≤◌, ◌+◌, drop}
use Rattle.lower_frame.specs.Credits.{sized}
use Rattle.lower_frame.proofs.frame.Frame.count.Given as goal

abbrev pub invariant-loop-credit : goal.invariant-loop-credit
invariant-loop-credit l = record {
  count : l.count + sized l.size (drop l.credit-index l.self.credits) ≡ sized l.size l.self.credits;
  few : l.count ≤ l.credit-index;
}
