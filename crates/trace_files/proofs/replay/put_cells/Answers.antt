use Rattle.std.proofs.Common.{◌∙◌, Some, map, ap, sym, arith, length, ◌<◌}
use Rattle.std.proofs.lemmas.Option.{slice_get-get_or}
use Rattle.trace_files.specs.Plain.{plain_cell, plain_event}
use Rattle.trace_files.proofs.Live.{to_map}
use Rattle.trace_files.proofs.Reported.{lines_more}
use Rattle.trace_files.proofs.replay.put_cells.Goals as goal

pub loop-number-preserved : goal.loop-number-preserved
loop-number-preserved c =
    let cells = c.args.cells.now in
    let n = c.loop-number.number in
    let x = c.index-cells-number.result in
    let t = c.loop-number-test.true in
    let all = c.requires.all in
    let within : n < length c.args.last.now = omega (arith, t, all) in
    let there = to_map plain_cell cells n x (slice_get-get_or cells n x c.loop-number-test.true ∙ ap Some (sym c.index-cells-number.is)) in
    lines_more (map plain_event c.args.events.now) (map plain_cell cells) c.args.last.now n (plain_cell x) _ c.loop-number.text.items c.put_cell.new.text.items _ there (slice_get-get_or c.args.last.now n _ within) c.in_ok-put_cell.ensures.line c.loop-number.invariant
