use Rattle.std.proofs.Common.{◌≡◌, ℕ, Option, Some, None, slice_get, length, map, take}
use Rattle.cell_trace.specs.declared.trace.LoadedCell.{LoadedCell}
use Rattle.trace_files.specs.Lines.{latest, numbered}
use Rattle.trace_files.specs.Plain.{plain_cell, plain_event}
use Rattle.trace_files.specs.Reading.{AreRising}
use Rattle.trace_files.proofs.replay.last_events.Given as goal

abbrev pub invariant-loop-number : goal.invariant-loop-number
invariant-loop-number l = record {
  all : length l.last.items ≡ length l.cells;
  reported : AreRising 0 (map plain_cell l.cells) → (k : ℕ) (c : LoadedCell) (o : Option ℕ) → slice_get l.cells k ≡ Some c → slice_get l.last.items k ≡ Some o → numbered (map plain_event l.events) o ≡ latest c.place l.step (take l.number (map plain_event l.events)) None;
}
