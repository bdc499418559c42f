use Rattle.std.proofs.Common.{◌≡◌, ◌-◌}
use Rattle.run_loading.specs.TraceReading.{then_read, read_number, read_cells}
use Rattle.trace_files.specs.Reading.{cells_of}
use Rattle.trace_files.proofs.Live.{UpTo}
use Rattle.trace_files.proofs.Steps.{with_front}
use Rattle.trace_files.proofs.read.read_cells.Given as goal

abbrev pub invariant-loop-i : goal.invariant-loop-i
invariant-loop-i l = record {
  reads : with_front (cells_of l.cells) (read_cells (l.count - l.i) l.least l.reader.at l.reader.rest) ≡ then_read (read_number 4 0 l.fn.reader.at l.fn.reader.rest) (λ n at rest. read_cells n 0 at rest);
  up : UpTo 0 (cells_of l.cells) l.least;
}
