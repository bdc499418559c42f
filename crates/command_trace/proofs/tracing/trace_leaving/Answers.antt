use Rattle.std.proofs.Common.{◌∙◌, false, Option, Ok, Err, ap, sym, subst}
use Rattle.std.specs.Prelude.{IfSome}
use Rattle.cell_trace.specs.declared.trace.Trace.{Trace as Memory}
use Rattle.fip_machine.specs.code_verify.Checked.{Checked, HasMachineInts}
use Rattle.command_words.specs.View.{room_of}
use Rattle.command_outcome.specs.declared.failure.Failure.{Failure}
use Rattle.fip_machine.specs.GaugeView.{IsUnseen}
use Rattle.fip_machine.specs.Traces.{HasTrace}
use Rattle.command_run.specs.machine_correctness.Starts.{IsSoundCode}
use Rattle.command_run.specs.Starting.{ReportsEnded}
use Rattle.command_run.specs.code_rules.Breaks.{IsSound}
use Rattle.code_verify.specs.cell_code.Plain.{plain}
use Rattle.command_run.proofs.machine_correctness.Literals.{has_literals}
use Rattle.command_run.proofs.Entry as N
use Rattle.command_run.proofs.Execs as X
use Rattle.command_run.proofs.Ran.{ran}
use Rattle.command_run.specs.CodeRun.{is_run_failure}
use Rattle.command_trace.specs.TraceAnswer.{Traces, TracesRun, KeptOrNoMemory}
use Rattle.command_run.proofs.Leaving.{last_store}
use Rattle.command_trace.proofs.Kept.{Says, kept_own, kept_trace, long, long_trace, stored, failed, run_failed, with_trace, without_trace, reports_failure, reports_value, or_memory}
use Rattle.command_trace.proofs.tracing.trace_leaving.Goals as goal

pub returns-in-Err-clause-traces : goal.returns-in-Err-clause-traces
returns-in-Err-clause-traces c = λ source name ready is le.
    let room = room_of c.args.room in
    let r = c.args.ready.now in
    let input = c.args.input.now in
    let literals = has_literals (plain r.checked.code) (subst (λ (v : Checked). HasMachineInts (plain v.code)) c.verified.ensures.same c.code.ensures.literals) in
    failed source name input room c.in-Err.failure (X.keeps_exec source name input r ready is literals room false c.in-Err.failure (c.in-Err.ensures.keeps (N.table_sound source name r ready is) le))

pub returns-in-Err-clause-own : goal.returns-in-Err-clause-own
returns-in-Err-clause-own c = λ source name ready is le. kept_own (plain c.args.ready.now.checked.code) c.args.ready.now.entry c.args.input.now (room_of c.args.room) c.in-Err.failure c.in-Err.ensures.stage

pub returns-in-Ok-traced_text-clause-traces : goal.returns-in-Ok-traced_text-clause-traces
returns-in-Ok-traced_text-clause-traces c = λ source name ready is le.
    let room = room_of c.args.room in
    let r = c.args.ready.now in
    let input = c.args.input.now in
    let literals = has_literals (plain r.checked.code) (subst (λ (v : Checked). HasMachineInts (plain v.code)) c.verified.ensures.same c.code.ensures.literals) in
    let sound : IsSoundCode r.checked.code = record { sound = subst (λ (v : Checked). IsSound (plain v.code)) c.verified.ensures.same c.code.ensures.sound; literals = literals } in
    let m = c.in-Ok.machine in
    let st = c.in-Ok.ensures.begins (N.table_sound source name r ready is) le in
    let unseen : IsUnseen c.new-seen.result = record { seen = c.new-seen.ensures.unseen; highest = c.new-seen.ensures.highest; frames = c.new-seen.ensures.frames; words = c.new-seen.ensures.words } in
    let o = c.in-Ok-run_traced.ended in
    let new = c.in-Ok-run_traced.machine in
    let g = c.run_traced.new.gauge in
    let q = ran r input room m st o new g sound c.in-Ok-run_traced.ensures.run (c.in-Ok-run_traced.ensures.gauge unseen) in
    let u = c.in-Some.trace in
    let kept = c.in-Ok-traced_text.compiled in
    let says = subst (λ (t : Option Memory). IfSome t (λ u. Says m room.calls (λ kinds code s. HasTrace kinds code s room.calls 16777216 u))) c.in-Some.is c.in-Ok-run_traced.ensures.traced in
    let own = kept_trace source name input r ready is room m st sound u kept.file.items says c.in-Ok-traced_text.ensures.file in
    let over = with_trace o c.in-Ok-run_traced.trace u c.in-Ok-run_traced.ensures.none c.in-Some.is in
    let reported = reports_value r.checked.code.types is.named.function.results room new.store new.stack.given o kept.text.items over (λ vs p. c.in-Ok-traced_text.ensures.lines is.named.function vs is.named.there q.small p) in
    let execs = X.finished source name input r ready is literals room false m st o new g q (Ok kept.text) reported in
    stored source name input r ready is room m st sound kept.file.items kept.text.items own execs

pub returns-in-Ok-traced_text-clause-own : goal.returns-in-Ok-traced_text-clause-own
returns-in-Ok-traced_text-clause-own c = λ source name ready is le.
    let room = room_of c.args.room in
    let r = c.args.ready.now in
    let input = c.args.input.now in
    let literals = has_literals (plain r.checked.code) (subst (λ (v : Checked). HasMachineInts (plain v.code)) c.verified.ensures.same c.code.ensures.literals) in
    let sound : IsSoundCode r.checked.code = record { sound = subst (λ (v : Checked). IsSound (plain v.code)) c.verified.ensures.same c.code.ensures.sound; literals = literals } in
    let m = c.in-Ok.machine in
    let st = c.in-Ok.ensures.begins (N.table_sound source name r ready is) le in
    let unseen : IsUnseen c.new-seen.result = record { seen = c.new-seen.ensures.unseen; highest = c.new-seen.ensures.highest; frames = c.new-seen.ensures.frames; words = c.new-seen.ensures.words } in
    let o = c.in-Ok-run_traced.ended in
    let new = c.in-Ok-run_traced.machine in
    let g = c.run_traced.new.gauge in
    let q = ran r input room m st o new g sound c.in-Ok-run_traced.ensures.run (c.in-Ok-run_traced.ensures.gauge unseen) in
    let u = c.in-Some.trace in
    let kept = c.in-Ok-traced_text.compiled in
    let says = subst (λ (t : Option Memory). IfSome t (λ u. Says m room.calls (λ kinds code s. HasTrace kinds code s room.calls 16777216 u))) c.in-Some.is c.in-Ok-run_traced.ensures.traced in
    let own = kept_trace source name input r ready is room m st sound u kept.file.items says c.in-Ok-traced_text.ensures.file in
    own

pub returns-in-Ok-traced_text-clause-meant : goal.returns-in-Ok-traced_text-clause-meant
returns-in-Ok-traced_text-clause-meant c = λ source name ready is le.
    let room = room_of c.args.room in
    let r = c.args.ready.now in
    let input = c.args.input.now in
    let literals = has_literals (plain r.checked.code) (subst (λ (v : Checked). HasMachineInts (plain v.code)) c.verified.ensures.same c.code.ensures.literals) in
    let sound : IsSoundCode r.checked.code = record { sound = subst (λ (v : Checked). IsSound (plain v.code)) c.verified.ensures.same c.code.ensures.sound; literals = literals } in
    let m = c.in-Ok.machine in
    let st = c.in-Ok.ensures.begins (N.table_sound source name r ready is) le in
    let unseen : IsUnseen c.new-seen.result = record { seen = c.new-seen.ensures.unseen; highest = c.new-seen.ensures.highest; frames = c.new-seen.ensures.frames; words = c.new-seen.ensures.words } in
    let o = c.in-Ok-run_traced.ended in
    let new = c.in-Ok-run_traced.machine in
    let g = c.run_traced.new.gauge in
    let q = ran r input room m st o new g sound c.in-Ok-run_traced.ensures.run (c.in-Ok-run_traced.ensures.gauge unseen) in
    last_store r input room m st o new g c.into_sealed.result q c.into_sealed.ensures.cells

pub untraced-requires : goal.untraced-requires
untraced-requires c = without_trace c.in-Ok-run_traced.ended c.in-Ok-run_traced.trace c.in-Ok-run_traced.ensures.trace c.in-None.is

pub returns-in-None-clause-traces : goal.returns-in-None-clause-traces
returns-in-None-clause-traces c = λ source name ready is le.
    let room = room_of c.args.room in
    let r = c.args.ready.now in
    let input = c.args.input.now in
    let literals = has_literals (plain r.checked.code) (subst (λ (v : Checked). HasMachineInts (plain v.code)) c.verified.ensures.same c.code.ensures.literals) in
    let sound : IsSoundCode r.checked.code = record { sound = subst (λ (v : Checked). IsSound (plain v.code)) c.verified.ensures.same c.code.ensures.sound; literals = literals } in
    let m = c.in-Ok.machine in
    let st = c.in-Ok.ensures.begins (N.table_sound source name r ready is) le in
    let unseen : IsUnseen c.new-seen.result = record { seen = c.new-seen.ensures.unseen; highest = c.new-seen.ensures.highest; frames = c.new-seen.ensures.frames; words = c.new-seen.ensures.words } in
    let o = c.in-Ok-run_traced.ended in
    let new = c.in-Ok-run_traced.machine in
    let g = c.run_traced.new.gauge in
    let q = ran r input room m st o new g sound c.in-Ok-run_traced.ensures.run (c.in-Ok-run_traced.ensures.gauge unseen) in
    let failure = c.untraced.result in
    let other = without_trace o c.in-Ok-run_traced.trace c.in-Ok-run_traced.ensures.trace c.in-None.is in
    let reported = reports_failure r.checked.code.types is.named.function.results room _ new.store new.stack.given o failure other (c.untraced.ensures.exact other) in
    failed source name input room failure (X.finished source name input r ready is literals room false m st o new g q (Err failure) (or_memory (ReportsEnded r.checked.code.types is.named.function.results room _ new.store new.stack.given o) failure reported))

pub returns-in-None-clause-own : goal.returns-in-None-clause-own
returns-in-None-clause-own c = λ source name ready is le. kept_own (plain c.args.ready.now.checked.code) c.args.ready.now.entry c.args.input.now (room_of c.args.room) c.untraced.result c.untraced.ensures.stage

pub returns-in-None-clause-meant : goal.returns-in-None-clause-meant
returns-in-None-clause-meant c = λ source name ready is le.
    let room = room_of c.args.room in
    let r = c.args.ready.now in
    let input = c.args.input.now in
    let literals = has_literals (plain r.checked.code) (subst (λ (v : Checked). HasMachineInts (plain v.code)) c.verified.ensures.same c.code.ensures.literals) in
    let sound : IsSoundCode r.checked.code = record { sound = subst (λ (v : Checked). IsSound (plain v.code)) c.verified.ensures.same c.code.ensures.sound; literals = literals } in
    let m = c.in-Ok.machine in
    let st = c.in-Ok.ensures.begins (N.table_sound source name r ready is) le in
    let unseen : IsUnseen c.new-seen.result = record { seen = c.new-seen.ensures.unseen; highest = c.new-seen.ensures.highest; frames = c.new-seen.ensures.frames; words = c.new-seen.ensures.words } in
    let o = c.in-Ok-run_traced.ended in
    let new = c.in-Ok-run_traced.machine in
    let g = c.run_traced.new.gauge in
    let q = ran r input room m st o new g sound c.in-Ok-run_traced.ensures.run (c.in-Ok-run_traced.ensures.gauge unseen) in
    last_store r input room m st o new g c.into_sealed-in-None.result q c.into_sealed-in-None.ensures.cells

pub returns-in-None-clause-some : goal.returns-in-None-clause-some
returns-in-None-clause-some c =
    let other = without_trace c.in-Ok-run_traced.ended c.in-Ok-run_traced.trace c.in-Ok-run_traced.ensures.trace c.in-None.is in
    sym (run_failed c.in-Ok-run_traced.ended c.args.room.calls c.args.room.frames c.untraced.result (c.untraced.ensures.exact other))

pub returns-in-Err-TooLong-clause-traces : goal.returns-in-Err-TooLong-clause-traces
returns-in-Err-TooLong-clause-traces c = λ source name ready is le.
    let room = room_of c.args.room in
    let r = c.args.ready.now in
    let input = c.args.input.now in
    let literals = has_literals (plain r.checked.code) (subst (λ (v : Checked). HasMachineInts (plain v.code)) c.verified.ensures.same c.code.ensures.literals) in
    let sound : IsSoundCode r.checked.code = record { sound = subst (λ (v : Checked). IsSound (plain v.code)) c.verified.ensures.same c.code.ensures.sound; literals = literals } in
    let m = c.in-Ok.machine in
    let st = c.in-Ok.ensures.begins (N.table_sound source name r ready is) le in
    let own = long_trace source name input r ready is room m st sound (c.run_traced.ensures.long (c.in-Err-TooLong.is ∙ ap Err c.in-Err-TooLong.field-0-is)) in
    subst (λ (f : Failure). KeptOrNoMemory (Traces source name input room) (Err f)) (sym c.too_long.ensures.names) (long source name input r ready is room m st sound own)

pub returns-in-Err-TooLong-clause-own : goal.returns-in-Err-TooLong-clause-own
returns-in-Err-TooLong-clause-own c = λ source name ready is le.
    let room = room_of c.args.room in
    let r = c.args.ready.now in
    let input = c.args.input.now in
    let literals = has_literals (plain r.checked.code) (subst (λ (v : Checked). HasMachineInts (plain v.code)) c.verified.ensures.same c.code.ensures.literals) in
    let sound : IsSoundCode r.checked.code = record { sound = subst (λ (v : Checked). IsSound (plain v.code)) c.verified.ensures.same c.code.ensures.sound; literals = literals } in
    let m = c.in-Ok.machine in
    let st = c.in-Ok.ensures.begins (N.table_sound source name r ready is) le in
    let own = long_trace source name input r ready is room m st sound (c.run_traced.ensures.long (c.in-Err-TooLong.is ∙ ap Err c.in-Err-TooLong.field-0-is)) in
    subst (λ (f : Failure). TracesRun (plain r.checked.code) r.entry input room (Err f)) (sym c.too_long.ensures.names) own

pub returns-in-Err-TooLong-clause-some : goal.returns-in-Err-TooLong-clause-some
returns-in-Err-TooLong-clause-some c = sym (ap is_run_failure c.too_long.ensures.names)
