-- With what is left to write the text is that of the end.
use Rattle.std.proofs.Common.{◌≡◌, ◌++◌, map, drop}
use Rattle.run_loading.specs.TraceText.{cells_text}
use Rattle.trace_files.specs.Plain.{plain_cell}
use Rattle.trace_files.proofs.write.put_cells.Given as goal

abbrev pub invariant-loop-i : goal.invariant-loop-i
invariant-loop-i l = l.text.items ++ cells_text (map plain_cell (drop l.i l.cells)) ≡ l.initial.text.items ++ cells_text (map plain_cell l.cells)
