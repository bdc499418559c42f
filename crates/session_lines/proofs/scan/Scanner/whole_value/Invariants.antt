use Rattle.std.proofs.Common.{◌≡◌, ◌≤◌, ◌-◌, length}
use Rattle.session_lines.specs.Completed.{Completes, GoesOn}
use Rattle.session_lines.specs.Scanned.{left}
use Rattle.session_lines.specs.declared.scan.Step.TheVariants.{Wants}
use Rattle.session_lines.proofs.scan.Scanner.whole_value.Given as goal

-- what completes the value from here on completes it from its start
abbrev pub invariant-loop-step : goal.invariant-loop-step
invariant-loop-step l = record {
  bytes : l.self.bytes.now ≡ l.fn.self.bytes.now;
  on : l.fn.self.at ≤ l.self.at;
  within : l.fn.self.at ≤ length l.fn.self.bytes.now → l.self.at ≤ length l.fn.self.bytes.now;
  few : l.depth ≤ l.self.at;
  alike : GoesOn (Completes Wants 0 (left l.fn.self)) (Completes l.step l.depth (left l.self));
}

abbrev pub decreases-loop-step : goal.decreases-loop-step
decreases-loop-step l = length l.self.bytes.now - l.self.at
