use Rattle.trace_files.proofs.Reported.{after_is}
use Rattle.trace_files.proofs.replay.cells_after.Goals as goal

pub returns : goal.returns
returns c = record {
  lines = after_is c.args.trace.now c.args.step c.as_slice.result.now c.as_slice-cells.result.now c.as_slice-2.result.now c.as_slice-3.result.now c.in_ok-last.last.items c.as_slice-4.result.now c.new-text.result.items c.put_cells.new.text.items c.as_slice.ensures.value c.as_slice-2.ensures.value c.as_slice-cells.ensures.value c.as_slice-3.ensures.value c.as_slice-4.ensures.value c.new-text.ensures.items c.in_ok-last.ensures.all c.in_ok-last.ensures.last c.in_ok-put_cells.ensures.lines;
}
