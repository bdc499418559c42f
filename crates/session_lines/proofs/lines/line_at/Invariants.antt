use Rattle.session_lines.proofs.Splitting.{IsFree}
use Rattle.session_lines.proofs.lines.line_at.Given as goal

-- no LF was before
abbrev pub invariant-loop-i : goal.invariant-loop-i
invariant-loop-i l = IsFree l.input l.at l.i
