use Rattle.value_text.specs.Loaded.{types_of}
use Rattle.task_lines.specs.Reading.{IsAt}
use Rattle.session_values.specs.Readable.{IsLine, AreParams}
use Rattle.task_lines.proofs.Arguments.{IsReadTo}
use Rattle.task_lines.proofs.task_line.values.Given as goal

-- the values of the first parameters are read
abbrev pub invariant-loop-i : goal.invariant-loop-i
invariant-loop-i l = record {
  at : IsAt l.bytes l.initial.scanner → IsAt l.bytes l.scanner;
  read : IsAt l.bytes l.initial.scanner → IsLine l.bytes → AreParams l.table (types_of l.params) → IsReadTo l.table l.bytes (types_of l.params) l.initial.scanner.at l.i l.scanner.at l.places.items l.initial.counts l.counts;
}
