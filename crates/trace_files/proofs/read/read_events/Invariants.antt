use Rattle.std.proofs.Common.{◌≡◌, ◌-◌, length, map}
use Rattle.run_loading.specs.TraceReading.{then_read, read_number, read_events}
use Rattle.trace_files.specs.Plain.{plain_cell}
use Rattle.trace_files.specs.Reading.{events_of, left}
use Rattle.trace_files.proofs.Steps.{with_front}
use Rattle.trace_files.proofs.read.read_events.Given as goal

abbrev pub invariant-loop-i : goal.invariant-loop-i
invariant-loop-i l = record {
  reads : with_front (events_of l.events) (read_events (l.count - l.i) (left (map plain_cell l.cells) l.released.items) l.least l.reader.at l.reader.rest) ≡ then_read (read_number 4 0 l.fn.reader.at l.fn.reader.rest) (λ n at rest. read_events n (map plain_cell l.cells) 1 at rest);
  all : length l.released.items ≡ length l.cells;
}
