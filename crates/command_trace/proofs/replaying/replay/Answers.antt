use Rattle.std.proofs.Common.{ap, sym, subst, Err}
use Rattle.trace_files.specs.run_loading.TraceReading.{IsBadTrace}
use Rattle.trace_files.specs.Plain.{plain_trace}
use Rattle.command_trace.proofs.Played.{played, long_bad, bad_at}
use Rattle.command_trace.proofs.replaying.replay.Goals as goal

pub returns-then-bytes-gt-MOST_FILE_BYTES-clause-bad : goal.returns-then-bytes-gt-MOST_FILE_BYTES-clause-bad
returns-then-bytes-gt-MOST_FILE_BYTES-clause-bad c = long_bad c.args.bytes.now c.if-bytes-gt-MOST_FILE_BYTES.true

pub returns-in_ok-cells_after-in-Ok-clause-shown : goal.returns-in_ok-cells_after-in-Ok-clause-shown
returns-in_ok-cells_after-in-Ok-clause-shown c = played c.args.bytes.now c.in_ok-cells_after-in-Ok.field-0.items (plain_trace c.in-Ok.trace) c.args.step c.if-bytes-gt-MOST_FILE_BYTES.false c.in-Ok.ensures.got c.in-Ok.ensures.trace c.in_ok-cells_after-in-Ok.ensures.lines

pub returns-in-Err-BadTrace-clause-bad : goal.returns-in-Err-BadTrace-clause-bad
returns-in-Err-BadTrace-clause-bad c = subst (IsBadTrace c.args.bytes.now) (sym c.in-Err-BadTrace.at-is) (bad_at c.args.bytes.now c.in-Err-BadTrace.at c.if-bytes-gt-MOST_FILE_BYTES.false (c.in-Err-BadTrace.ensures.bad c.in-Err-BadTrace.at (ap Err c.in-Err-BadTrace.field-0-is)))
