use Rattle.std.proofs.Common.{◌≡◌, ℕ, List, [], map, subst}
use Rattle.run_loading.specs.TraceReading.{Got, then_read, read_number, read_events, read_steps}
use Rattle.run_loading.specs.TraceText.{Loaded}
use Rattle.trace_files.specs.Plain.{plain_cell, plain_event, plain_trace}
use Rattle.trace_files.specs.Reading.{cells_of, events_of}
use Rattle.trace_files.proofs.Steps.{whole_got}
use Rattle.trace_files.proofs.read.whole.Goals as goal

pub returns : goal.returns
returns c =
    let trace = plain_trace (record { cells = c.in_ok-cells.cells; events = c.in_ok-events.events; steps = c.in_ok-steps.steps }) in
    let events = subst (λ xs. then_read (read_number 4 0 c.read_cells.new.reader.at c.read_cells.new.reader.rest) (λ n at rest. read_events n (map plain_cell xs) 1 at rest) ≡ Got (events_of c.in_ok-events.events) c.read_events.new.reader.at c.read_events.new.reader.rest) c.as_slice.ensures.value c.in_ok-events.ensures.reads in
    let steps = subst (λ xs. (cells : List Loaded) → (end : ℕ) × (read_steps cells (map plain_event xs) c.read_events.new.reader.at c.read_events.new.reader.rest ≡ Got (record { cells = cells; events = map plain_event xs; steps = c.in_ok-steps.steps }) end [])) c.as_slice-2.ensures.value c.in_ok-steps.ensures.reads in
    record { reads = whole_got c.args.bytes.now c.new-reader.result c.exactly.new.self c.read_cells.new.reader c.read_events.new.reader (cells_of c.in_ok-cells.cells) (events_of c.in_ok-events.events) trace c.new-reader.ensures.begins c.in_ok-exactly.ensures.reads c.in_ok-cells.ensures.reads events (steps (cells_of c.in_ok-cells.cells)) }
