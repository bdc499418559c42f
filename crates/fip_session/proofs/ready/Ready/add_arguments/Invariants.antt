use Rattle.std.proofs.Common.{◌≡◌, List, [], map}
use Rattle.fip_language.specs.Values.{Values}
use Rattle.session_lines.specs.Said.{AreGiven}
use Rattle.session_lines.specs.session_semantics.Lines.{Given}
use Rattle.session_lines.specs.session_semantics.Talk.{AreTaken}
use Rattle.session_correctness.specs.Lodging.{Lodged, holding_of}
use Rattle.value_text.specs.Loaded.{types_of}
use Rattle.fip_session.specs.Planned.{CanTakeAll, Finds, AreHeld}
use Rattle.fip_session.specs.Readied.{Lie}
use Rattle.fip_session.proofs.Readying.{Putting}
use Rattle.fip_session.proofs.ready.Ready.add_arguments.Given as goal

-- the first arguments have their words, and the names among the others hold something
abbrev pub invariant-loop-param : goal.invariant-loop-param
invariant-loop-param l = record {
  put : l.fn.self.words.items ≡ [] → l.fn.self.values.items ≡ [] → CanTakeAll l.book.table.now (types_of l.params) l.bytes → (ls : List Lodged) → Finds l.book.held ls → Lie l.book.table.now ls l.initial.loader → (gs : List Given) → AreGiven l.bytes l.arguments gs → (vs : Values) → AreTaken l.book.table.now (map holding_of ls) [] l.params gs vs → Putting l.book.table.now l.bytes ls l.params gs vs l.initial.loader l.loader l.self l.param-iterator.a.rest.now l.param-iterator.b.rest.now;
  held : AreHeld l.book.held l.param-iterator.b.rest.now;
}
