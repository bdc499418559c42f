use Rattle.session_lines.proofs.Naming.{AreFirst}
use Rattle.session_lines.proofs.entries.Entries.of.Given as goal

-- the names of the functions so far
abbrev pub invariant-loop-number : goal.invariant-loop-number
invariant-loop-number l = AreFirst l.verified.code.functions.items l.number l.numbers
