use Rattle.std.proofs.Common.{◌∙◌, [], ◌∷◌, length, map, ap}
use Rattle.std.proofs.lemmas.List.{map-append}
use Rattle.std.proofs.lemmas.Result.{err_from_is_err_and}
use Rattle.trace_files.specs.Plain.{plain_cell, plain_event}
use Rattle.trace_files.specs.Reading.{events_of, left}
use Rattle.trace_files.proofs.Live.{cells_left, falses}
use Rattle.trace_files.proofs.Steps.{events_first, events_more, events_err, events_all}
use Rattle.trace_files.proofs.read.read_events.Goals as goal

pub loop-i-init : goal.loop-i-init
loop-i-init c =
    let cells = map plain_cell c.args.cells.now in
    let items = c.in_ok-released.ensures.items_if_clones_equal (λ y h. h) in record {
      reads = events_first c.in_ok-count.count cells (left cells c.in_ok-released.released.items) c.args.reader.now c.u32.new.self (events_of c.new-events.result) (ap (map plain_event) c.new-events.ensures.items) (ap (left cells) items ∙ cells_left c.args.cells.now) c.in_ok-count.ensures.reads;
      all = ap length items ∙ falses (length c.args.cells.now);
    }

pub returns-in_err-event : goal.returns-in_err-event
returns-in_err-event c =
    let p = err_from_is_err_and c.from_residual-in_err-event.result c.from_residual-in_err-event.ensures.1 in
    record { reads = rw (p.1, p.2) (events_err plain_event events_of c.in_ok-count.count c.loop-i.i c.loop-i.least (left (map plain_cell c.args.cells.now) c.loop-i.released.items) c.loop-i.reader c.read_event.new.reader c.read_event.new.reader (events_of c.loop-i.events) c.in_err-event.field-0.0 _ c.loop-i-test.true c.loop-i.invariant.reads c.in_err-event.ensures.reads) }

pub loop-i-preserved : goal.loop-i-preserved
loop-i-preserved c =
    let cells = map plain_cell c.args.cells.now in
    let same = ap (map plain_event) c.in_ok-push.ensures.items ∙ map-append plain_event c.loop-i.events.items (c.in_ok-event.event ∷ []) in record {
      reads = events_more c.in_ok-count.count c.loop-i.i c.loop-i.least c.step_of-least.result (left cells c.loop-i.released.items) (left cells c.read_event.new.released.items) (plain_event c.in_ok-event.event) c.loop-i.reader c.read_event.new.reader (events_of c.loop-i.events) (events_of c.push.new.self) _ c.loop-i-test.true same c.step_of-least.ensures.is c.in_ok-event.ensures.left c.in_ok-event.ensures.reads c.loop-i.invariant.reads;
      all = c.read_event.ensures.all;
    }

pub returns : goal.returns
returns c = record { reads = events_all c.in_ok-count.count c.loop-i.i c.loop-i.least (left (map plain_cell c.args.cells.now) c.loop-i.released.items) c.loop-i.reader (events_of c.loop-i.events) _ c.loop-i-test.false c.loop-i.invariant.reads }
