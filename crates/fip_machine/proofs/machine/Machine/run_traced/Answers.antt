-- The machine is taken apart, its task runs over a recorder, and it is put together again.
use Rattle.std.proofs.Common.{◌∙◌, Ok, Err, ap, sym, subst}
use Rattle.cell_trace.specs.Traced.{IsTraced}
use Rattle.cell_trace.specs.declared.error.TraceError.TheVariants as F
use Rattle.fip_machine.proofs.Wholes.{has_come, has_reported, saw, recorded_ran, has_traced, error_is}
use Rattle.fip_machine.proofs.machine.Machine.run_traced.Goals as goal

pub returns-in_ok-trace-in-Value-clause-run : goal.returns-in_ok-trace-in-Value-clause-run
returns-in_ok-trace-in-Value-clause-run c = has_come c.args.self c.into_parts-stack.result.0 c.into_parts-stack.result.1 c.in_ok-recorder.recorder.store c.args.calls c.run_recorded-ended.result c.run_recorded-ended.new.stack c.run_recorded-ended.new.recorder.store c.finish-cells.result.0 c.of-machine.result c.into_parts-stack.ensures.stack c.into_parts-stack.ensures.store c.into_parts-stack.ensures.pushed c.in_ok-recorder.ensures.same c.frames.ensures.measured (recorded_ran c.into_parts-stack.result.0 c.into_parts-stack.result.1 c.in_ok-recorder.recorder c.run_recorded-ended.new.recorder c.args.calls c.args.limit c.run_recorded-ended.result c.run_recorded-ended.new.stack c.in_ok-recorder.ensures.same c.in_ok-recorder.ensures.loaded c.run_recorded-ended.ensures.run) c.finish-cells.ensures.same c.of-machine.ensures.stack c.of-machine.ensures.store

pub returns-in_ok-trace-in-Value-clause-gauge : goal.returns-in_ok-trace-in-Value-clause-gauge
returns-in_ok-trace-in-Value-clause-gauge c =
    let t = c.into_parts-stack.result.0 in
    let r = c.in_ok-recorder.recorder.store in
    let u = c.run_recorded-ended.new.stack in
    let w = c.run_recorded-ended.new.recorder.store in
    let first = saw c.args.gauge.now c.see.new.self r.cells r.released t.frames t.words c.frames.result c.words.result c.held.result c.see.ensures.lowest c.see.ensures.highest c.see.ensures.frames c.see.ensures.words c.see.ensures.seen c.held.ensures.counts c.frames.ensures.frames c.words.ensures.words in
    let last = saw c.see.new.self c.see-2.new.self w.cells w.released u.most_frames u.most_words c.highest-highest.result.frames c.highest-highest.result.words c.held-2.result c.see-2.ensures.lowest c.see-2.ensures.highest c.see-2.ensures.frames c.see-2.ensures.words c.see-2.ensures.seen c.held-2.ensures.counts c.highest-highest.ensures.frames c.highest-highest.ensures.words in
    has_reported c.args.self c.into_parts-stack.result.0 c.into_parts-stack.result.1 c.in_ok-recorder.recorder.store c.args.calls c.run_recorded-ended.result c.run_recorded-ended.new.stack c.run_recorded-ended.new.recorder.store c.args.gauge.now c.see.new.self c.see-2.new.self c.into_parts-stack.ensures.stack c.into_parts-stack.ensures.store c.into_parts-stack.ensures.pushed c.in_ok-recorder.ensures.same c.frames.ensures.measured (recorded_ran c.into_parts-stack.result.0 c.into_parts-stack.result.1 c.in_ok-recorder.recorder c.run_recorded-ended.new.recorder c.args.calls c.args.limit c.run_recorded-ended.result c.run_recorded-ended.new.stack c.in_ok-recorder.ensures.same c.in_ok-recorder.ensures.loaded c.run_recorded-ended.ensures.run) first last

pub returns-in_default-clause-run : goal.returns-in_default-clause-run
returns-in_default-clause-run c = has_come c.args.self c.into_parts-stack.result.0 c.into_parts-stack.result.1 c.in_ok-recorder.recorder.store c.args.calls c.run_recorded-ended.result c.run_recorded-ended.new.stack c.run_recorded-ended.new.recorder.store c.finish-cells.result.0 c.of-machine.result c.into_parts-stack.ensures.stack c.into_parts-stack.ensures.store c.into_parts-stack.ensures.pushed c.in_ok-recorder.ensures.same c.frames.ensures.measured (recorded_ran c.into_parts-stack.result.0 c.into_parts-stack.result.1 c.in_ok-recorder.recorder c.run_recorded-ended.new.recorder c.args.calls c.args.limit c.run_recorded-ended.result c.run_recorded-ended.new.stack c.in_ok-recorder.ensures.same c.in_ok-recorder.ensures.loaded c.run_recorded-ended.ensures.run) c.finish-cells.ensures.same c.of-machine.ensures.stack c.of-machine.ensures.store

pub returns-in_default-clause-gauge : goal.returns-in_default-clause-gauge
returns-in_default-clause-gauge c =
    let t = c.into_parts-stack.result.0 in
    let r = c.in_ok-recorder.recorder.store in
    let u = c.run_recorded-ended.new.stack in
    let w = c.run_recorded-ended.new.recorder.store in
    let first = saw c.args.gauge.now c.see.new.self r.cells r.released t.frames t.words c.frames.result c.words.result c.held.result c.see.ensures.lowest c.see.ensures.highest c.see.ensures.frames c.see.ensures.words c.see.ensures.seen c.held.ensures.counts c.frames.ensures.frames c.words.ensures.words in
    let last = saw c.see.new.self c.see-2.new.self w.cells w.released u.most_frames u.most_words c.highest-highest.result.frames c.highest-highest.result.words c.held-2.result c.see-2.ensures.lowest c.see-2.ensures.highest c.see-2.ensures.frames c.see-2.ensures.words c.see-2.ensures.seen c.held-2.ensures.counts c.highest-highest.ensures.frames c.highest-highest.ensures.words in
    has_reported c.args.self c.into_parts-stack.result.0 c.into_parts-stack.result.1 c.in_ok-recorder.recorder.store c.args.calls c.run_recorded-ended.result c.run_recorded-ended.new.stack c.run_recorded-ended.new.recorder.store c.args.gauge.now c.see.new.self c.see-2.new.self c.into_parts-stack.ensures.stack c.into_parts-stack.ensures.store c.into_parts-stack.ensures.pushed c.in_ok-recorder.ensures.same c.frames.ensures.measured (recorded_ran c.into_parts-stack.result.0 c.into_parts-stack.result.1 c.in_ok-recorder.recorder c.run_recorded-ended.new.recorder c.args.calls c.args.limit c.run_recorded-ended.result c.run_recorded-ended.new.stack c.in_ok-recorder.ensures.same c.in_ok-recorder.ensures.loaded c.run_recorded-ended.ensures.run) first last

pub returns-in_ok-trace-in-Value-clause-traced : goal.returns-in_ok-trace-in-Value-clause-traced
returns-in_ok-trace-in-Value-clause-traced c = has_traced c.args.self c.into_parts-stack.result.0 c.into_parts-stack.result.1 c.in_ok-recorder.recorder c.run_recorded-ended.new.recorder c.args.calls c.args.limit c.run_recorded-ended.result c.run_recorded-ended.new.stack (Ok c.in_ok-trace-in-Value.field-0) c.into_parts-stack.ensures.stack c.into_parts-stack.ensures.store c.into_parts-stack.ensures.pushed c.in_ok-recorder.ensures.same c.frames.ensures.measured c.in_ok-recorder.ensures.loaded c.run_recorded-ended.ensures.run (λ cs es n l t. subst (IsTraced cs es n l) c.in_ok-trace-in-Value.was (c.finish-cells.ensures.traced cs es n l t)) c.in-Value.is

pub returns-in_err-trace-in-Value-clause-long : goal.returns-in_err-trace-in-Value-clause-long
returns-in_err-trace-in-Value-clause-long c e = has_traced c.args.self c.into_parts-stack.result.0 c.into_parts-stack.result.1 c.in_ok-recorder.recorder c.run_recorded-ended.new.recorder c.args.calls c.args.limit c.run_recorded-ended.result c.run_recorded-ended.new.stack (Err F.TooLong) c.into_parts-stack.ensures.stack c.into_parts-stack.ensures.store c.into_parts-stack.ensures.pushed c.in_ok-recorder.ensures.same c.frames.ensures.measured c.in_ok-recorder.ensures.loaded c.run_recorded-ended.ensures.run (λ cs es n l t. subst (IsTraced cs es n l) (c.in_err-trace-in-Value.was ∙ ap Err (sym (error_is c.from_residual-in_err-trace-in-Value.result _ F.TooLong e c.from_residual-in_err-trace-in-Value.ensures.1))) (c.finish-cells.ensures.traced cs es n l t)) c.in-Value.is
