use Rattle.session_lines.proofs.Tokens.{IsReading}
use Rattle.session_lines.proofs.scan.after_name.Given as goal

-- what was before is read
abbrev pub invariant-loop-i : goal.invariant-loop-i
invariant-loop-i l = IsReading l.bytes l.at l.i
