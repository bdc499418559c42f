use Rattle.std.proofs.Common.{◌≡◌, ◌≤◌, drop}
use Rattle.session_semantics.specs.Lines.{symbols, skip}
use Rattle.session_lines.proofs.scan.after_blanks.Given as goal

-- what was before is blanks
abbrev pub invariant-loop-i : goal.invariant-loop-i
invariant-loop-i l = record {
  from : l.at ≤ l.i;
  skips : skip (symbols (drop l.at l.bytes)) ≡ skip (symbols (drop l.i l.bytes));
}
