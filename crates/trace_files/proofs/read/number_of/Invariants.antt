use Rattle.std.proofs.Common.{◌≡◌, ◌<◌, ◌≤◌, ◌-◌, ℕ, length, map, Some, slice_get}
use Rattle.cell_trace.specs.declared.trace.LoadedCell.{LoadedCell}
use Rattle.trace_files.specs.Plain.{plain_cell}
use Rattle.trace_files.specs.Reading.{AreRising}
use Rattle.trace_files.proofs.read.number_of.Given as goal

abbrev pub decreases-loop-low : goal.decreases-loop-low
decreases-loop-low l = l.high - l.low

abbrev pub invariant-loop-low : goal.invariant-loop-low
invariant-loop-low l = record {
  within : l.high ≤ length l.cells;
  before : AreRising 0 (map plain_cell l.cells) → (k : ℕ) (c : LoadedCell) → slice_get l.cells k ≡ Some c → k < l.low → c.place < l.place;
  following : AreRising 0 (map plain_cell l.cells) → (k : ℕ) (c : LoadedCell) → slice_get l.cells k ≡ Some c → l.high ≤ k → l.place < c.place;
}
