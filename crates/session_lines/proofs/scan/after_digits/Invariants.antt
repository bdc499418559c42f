use Rattle.session_lines.proofs.Writing.{AreDigits}
use Rattle.session_lines.proofs.scan.after_digits.Given as goal

-- what was before is digits
abbrev pub invariant-loop-i : goal.invariant-loop-i
invariant-loop-i l = AreDigits l.bytes l.at l.i
