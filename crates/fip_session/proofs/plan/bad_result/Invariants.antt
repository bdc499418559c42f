use Rattle.std.proofs.Common.{List, map}
use Rattle.session_correctness.specs.Lodging.{Lodged, holding_of}
use Rattle.session_lines.specs.Said.{names_of}
use Rattle.fip_session.specs.Planned.{Finds, names_used}
use Rattle.fip_session.proofs.Resulting.{Frees}
use Rattle.fip_session.proofs.plan.bad_result.Given as goal

-- the first names are free
abbrev pub invariant-loop-i : goal.invariant-loop-i
invariant-loop-i l = (ls : List Lodged) → Finds l.book.held ls → Frees (map holding_of ls) (names_used l.arguments.given.items) (names_of l.results) l.i
