use Rattle.std.proofs.Common.{◌≡◌, ◌++◌, drop, map}
use Rattle.trace_files.specs.Lines.{lines_by}
use Rattle.trace_files.specs.Plain.{plain_cell, plain_event}
use Rattle.trace_files.proofs.replay.put_cells.Given as goal

abbrev pub invariant-loop-number : goal.invariant-loop-number
invariant-loop-number l = l.text.items ++ lines_by (map plain_event l.events) (drop l.number (map plain_cell l.cells)) (drop l.number l.last) ≡ l.fn.text.items ++ lines_by (map plain_event l.events) (map plain_cell l.cells) l.last
