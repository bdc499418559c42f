use Rattle.std.proofs.Common.{◌≡◌, List, drop, length, map}
use Rattle.session_correctness.specs.Lodging.{Lodged, holding_of}
use Rattle.session_lines.specs.Said.{AreGiven}
use Rattle.session_lines.specs.session_semantics.Lines.{Given}
use Rattle.value_text.specs.Loaded.{types_of}
use Rattle.fip_session.specs.Planned.{CanTakeAll, Finds, AreHeldTo}
use Rattle.fip_session.proofs.Accepting.{Leads}
use Rattle.fip_session.proofs.plan.Arguments.accept_all.Given as goal

-- the first arguments are taken in, and the names among them hold something
abbrev pub invariant-loop-i : goal.invariant-loop-i
invariant-loop-i l = record {
  taken : CanTakeAll l.book.table.now (types_of l.params) l.bytes → (ls : List Lodged) → Finds l.book.held ls → (gs : List Given) → AreGiven l.bytes l.arguments gs → length gs ≡ length l.params → Leads l.book.table.now (map holding_of ls) l.params gs l.fn.self l.self (drop l.i l.params) (drop l.i gs) l.i;
  held : AreHeldTo l.i l.book.held l.arguments;
}
