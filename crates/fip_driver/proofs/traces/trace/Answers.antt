use Rattle.std.proofs.Common.{◌∙◌, true, refl, subst, inl, inr}
use Rattle.command_words.specs.Words as W
use Rattle.command_words.specs.View.{room_of}
use Rattle.command_answers.specs.command_library.command_source.Wanted.{Compiled, IsReady}
use Rattle.command_answers.specs.Ends.{TracesTo}
use Rattle.command_answers.specs.Stored.{IsTraceFile}
use Rattle.fip_driver.specs.Turns.{end_of}
use Rattle.fip_driver.proofs.Making.{traced, untraced, unfetched, refused, apart_on}
use Rattle.fip_driver.proofs.SourceEnds.{trace_stored, input_ends, kept_ends, source_ends, fetch_ends}
use Rattle.fip_driver.proofs.Storing.{stored_kept, unstored}
use Rattle.fip_driver.proofs.Unread.{late_after_input, stored_after_input}
use Rattle.command_answers.specs.command_library.command_source.ProgramCode.{IsEntryOf}
use Rattle.command_answers.specs.command_library.command_run.CodeRun.{is_run_failure}
use Rattle.fip_driver.specs.Left.{LeftOn}
use Rattle.fip_driver.specs.Outcome.{Remains}
use Rattle.fip_driver.proofs.Remains.{fetch_ran, source_ran, leaves_trace, leaves_stored}
use Rattle.fip_driver.proofs.Counted.{stored_counted, late_failure_counted, source_counted, fetch_counted}
use Rattle.fip_driver.proofs.traces.trace.Goals as goal

pub returns-in-Ok-traced-clause-outcome : goal.returns-in-Ok-traced-clause-outcome
returns-in-Ok-traced-clause-outcome g c = source_ends (W.Trace c.args.file.now c.args.entry.now c.args.out.now (room_of c.args.room)) (Compiled c.args.entry.now) c.args.file.now (g.F.Folder.files c.args.folder.now) (g.S.Source.left c.args.input.now) _ _ _ _ c.in-Ok.source.items c.as_slice.result.now (end_of c.store_leaving.result) (λ r. r) (λ r. r) c.in-Ok.ensures.found refl refl c.as_slice.ensures.value (trace_stored (g.S.Source.left c.args.input.now) _ c.args.file.now c.args.entry.now c.args.out.now c.as_slice.result.now c.in-Ok-traced.compiled.text.items (room_of c.args.room) _ _ _ (Compiled c.args.entry.now) c.store_leaving.result c.in-Ok.ensures.later c.in-Ok-exec_entry.ensures.ready (c.in-Ok-traced.ensures.outcome c.as_slice.result.now c.args.entry.now c.in-Ok-exec_entry.ensures.ready c.in-Ok-exec_entry.ensures.code) c.store_leaving.ensures.reported c.store_leaving.ensures.fails)

pub returns-in-Err-traced-clause-outcome : goal.returns-in-Err-traced-clause-outcome
returns-in-Err-traced-clause-outcome g c = source_ends (W.Trace c.args.file.now c.args.entry.now c.args.out.now (room_of c.args.room)) (Compiled c.args.entry.now) c.args.file.now (g.F.Folder.files c.args.folder.now) (g.S.Source.left c.args.input.now) ⊥ _ _ _ c.in-Ok.source.items c.as_slice.result.now _ (λ r. absurd r) (λ r. r) c.in-Ok.ensures.found refl refl c.as_slice.ensures.value (input_ends (W.Trace c.args.file.now c.args.entry.now c.args.out.now (room_of c.args.room)) (Compiled c.args.entry.now) c.as_slice.result.now (g.S.Source.left c.args.input.now) ⊥ _ (λ input. TracesTo c.as_slice.result.now c.args.entry.now input (room_of c.args.room)) _ c.in-Ok-exec_entry.ensures.ready tt (λ input d m. m) (c.in-Err-traced.ensures.outcome c.as_slice.result.now c.args.entry.now c.in-Ok-exec_entry.ensures.ready c.in-Ok-exec_entry.ensures.code))

pub returns-in-Err-exec_entry-clause-outcome : goal.returns-in-Err-exec_entry-clause-outcome
returns-in-Err-exec_entry-clause-outcome g c = source_ends (W.Trace c.args.file.now c.args.entry.now c.args.out.now (room_of c.args.room)) (Compiled c.args.entry.now) c.args.file.now (g.F.Folder.files c.args.folder.now) (g.S.Source.left c.args.input.now) ⊥ ⊥ _ _ c.in-Ok.source.items c.as_slice.result.now _ (λ r. absurd r) (λ r. absurd r) c.in-Ok.ensures.found refl refl c.as_slice.ensures.value (kept_ends (W.Trace c.args.file.now c.args.entry.now c.args.out.now (room_of c.args.room)) (Compiled c.args.entry.now) c.as_slice.result.now (g.S.Source.left c.args.input.now) ⊥ ⊥ c.in-Err-exec_entry.failure c.in-Err-exec_entry.ensures.kept)

pub returns-in-Err-clause-outcome : goal.returns-in-Err-clause-outcome
returns-in-Err-clause-outcome g c = fetch_ends (W.Trace c.args.file.now c.args.entry.now c.args.out.now (room_of c.args.room)) (Compiled c.args.entry.now) c.args.file.now (g.F.Folder.files c.args.folder.now) (g.S.Source.left c.args.input.now) _ _ _ c.in-Err.failure refl refl (λ r. r) c.in-Err.ensures.fails

pub returns-in-Ok-traced-clause-before : goal.returns-in-Ok-traced-clause-before
returns-in-Ok-traced-clause-before g c = λ b. absurd (stored_after_input _ _ c.store_leaving.result c.store_leaving.ensures.fails b)

pub returns-in-Ok-traced-clause-kept : goal.returns-in-Ok-traced-clause-kept
returns-in-Ok-traced-clause-kept g c = stored_kept (W.Trace c.args.file.now c.args.entry.now c.args.out.now (room_of c.args.room)) (g.S.Source.left c.args.input.now) c.args.out.now c.in-Ok-traced.compiled.file.items (g.F.Folder.files c.args.folder.now) _ _ _ _ _ c.store_leaving.result c.in-Ok.ensures.same c.in-Ok.ensures.later (c.in-Ok.source.items, c.in-Ok.ensures.found, subst (λ xs. IsReady xs (Compiled c.args.entry.now)) c.as_slice.ensures.value c.in-Ok-exec_entry.ensures.ready, subst (λ xs. IsTraceFile xs c.args.entry.now (room_of c.args.room) (g.S.Source.left c.args.input.now) c.in-Ok-traced.compiled.file.items) c.as_slice.ensures.value (c.in-Ok-traced.ensures.made c.as_slice.result.now c.args.entry.now c.in-Ok-exec_entry.ensures.ready c.in-Ok-exec_entry.ensures.code)) c.store_leaving.ensures.fails c.store_leaving.ensures.kept

pub returns-in-Ok-traced-clause-counted : goal.returns-in-Ok-traced-clause-counted
returns-in-Ok-traced-clause-counted g c = stored_counted (g.F.Folder.files c.args.folder.now) _ _ _ c.store_leaving.result c.in-Ok.ensures.later c.store_leaving.ensures.fails

pub returns-in-Err-traced-clause-before : goal.returns-in-Err-traced-clause-before
returns-in-Err-traced-clause-before g c = λ b. absurd (late_after_input c.in-Err-traced.failure c.in-Err-traced.ensures.fails b)

pub returns-in-Err-traced-clause-kept : goal.returns-in-Err-traced-clause-kept
returns-in-Err-traced-clause-kept g c = unstored (W.Trace c.args.file.now c.args.entry.now c.args.out.now (room_of c.args.room)) (g.S.Source.left c.args.input.now) c.args.out.now _ (g.F.Folder.files c.args.folder.now) _ c.in-Err-traced.failure c.in-Ok.ensures.same

pub returns-in-Err-traced-clause-counted : goal.returns-in-Err-traced-clause-counted
returns-in-Err-traced-clause-counted g c = late_failure_counted (g.F.Folder.files c.args.folder.now) _ c.in-Err-traced.failure c.in-Err-traced.ensures.fails

pub returns-in-Err-exec_entry-clause-kept : goal.returns-in-Err-exec_entry-clause-kept
returns-in-Err-exec_entry-clause-kept g c = unstored (W.Trace c.args.file.now c.args.entry.now c.args.out.now (room_of c.args.room)) (g.S.Source.left c.args.input.now) c.args.out.now _ (g.F.Folder.files c.args.folder.now) _ c.in-Err-exec_entry.failure c.in-Ok.ensures.same

pub returns-in-Err-exec_entry-clause-counted : goal.returns-in-Err-exec_entry-clause-counted
returns-in-Err-exec_entry-clause-counted g c = source_counted (g.F.Folder.files c.args.folder.now) _ c.in-Err-exec_entry.failure c.in-Err-exec_entry.ensures.stage

pub returns-in-Err-clause-kept : goal.returns-in-Err-clause-kept
returns-in-Err-clause-kept g c = unstored (W.Trace c.args.file.now c.args.entry.now c.args.out.now (room_of c.args.room)) (g.S.Source.left c.args.input.now) c.args.out.now _ (g.F.Folder.files c.args.folder.now) _ c.in-Err.failure c.in-Err.ensures.same

pub returns-in-Err-clause-counted : goal.returns-in-Err-clause-counted
returns-in-Err-clause-counted g c = fetch_counted (g.F.Folder.files c.args.folder.now) c.args.file.now _ _ c.in-Err.failure c.in-Err.ensures.fails

pub returns-in-Ok-traced-clause-waits : goal.returns-in-Ok-traced-clause-waits
returns-in-Ok-traced-clause-waits g c = inr (c.in-Ok.source.items, c.in-Ok.ensures.found, subst (λ xs. IsReady xs (Compiled c.args.entry.now)) c.as_slice.ensures.value c.in-Ok-exec_entry.ensures.ready)

pub returns-in-Err-traced-clause-waits : goal.returns-in-Err-traced-clause-waits
returns-in-Err-traced-clause-waits g c = inr (c.in-Ok.source.items, c.in-Ok.ensures.found, subst (λ xs. IsReady xs (Compiled c.args.entry.now)) c.as_slice.ensures.value c.in-Ok-exec_entry.ensures.ready)

pub returns-in-Err-exec_entry-clause-waits : goal.returns-in-Err-exec_entry-clause-waits
returns-in-Err-exec_entry-clause-waits g c = inl refl

pub returns-in-Err-clause-waits : goal.returns-in-Err-clause-waits
returns-in-Err-clause-waits g c = inl refl

pub returns-in-Ok-traced-clause-left : goal.returns-in-Ok-traced-clause-left
returns-in-Ok-traced-clause-left g c = leaves_stored c.args.file.now c.args.entry.now c.args.out.now (room_of c.args.room) (g.F.Folder.files c.args.folder.now) (g.S.Source.left c.args.input.now) c.in-Ok.source.items _ _ c.store_leaving.result _ _ c.in-Ok.ensures.found
    (subst (λ xs. Remains (LeftOn (IsEntryOf xs c.args.entry.now) (g.S.Source.left c.args.input.now) (room_of c.args.room)) true c.traced.new.left) c.as_slice.ensures.value
    (c.in-Ok-traced.ensures.left c.as_slice.result.now c.args.entry.now c.in-Ok-exec_entry.ensures.ready c.in-Ok-exec_entry.ensures.code)) c.store_leaving.ensures.fails c.store_leaving.ensures.left c.store_leaving.ensures.none

pub returns-in-Err-traced-clause-left : goal.returns-in-Err-traced-clause-left
returns-in-Err-traced-clause-left g c = leaves_trace c.args.file.now c.args.entry.now c.args.out.now (room_of c.args.room) (g.F.Folder.files c.args.folder.now) (g.S.Source.left c.args.input.now) c.in-Ok.source.items _ _ c.in-Ok.ensures.found
    (subst (λ xs. Remains (LeftOn (IsEntryOf xs c.args.entry.now) (g.S.Source.left c.args.input.now) (room_of c.args.room)) (is_run_failure c.in-Err-traced.failure) c.traced.new.left) c.as_slice.ensures.value
    (c.in-Err-traced.ensures.left c.as_slice.result.now c.args.entry.now c.in-Ok-exec_entry.ensures.ready c.in-Ok-exec_entry.ensures.code))

pub returns-in-Err-exec_entry-clause-left : goal.returns-in-Err-exec_entry-clause-left
returns-in-Err-exec_entry-clause-left g c = λ cells. source_ran c.in-Err-exec_entry.failure c.in-Err-exec_entry.ensures.stage

pub returns-in-Err-clause-left : goal.returns-in-Err-clause-left
returns-in-Err-clause-left g c = λ cells. fetch_ran (g.F.Folder.files c.args.folder.now) c.args.file.now _ _ c.in-Err.failure c.in-Err.ensures.fails

pub returns-in-Ok-traced-clause-made : goal.returns-in-Ok-traced-clause-made
returns-in-Ok-traced-clause-made g c = traced c.args.file.now c.args.entry.now c.args.out.now (room_of c.args.room) (g.F.Folder.files c.args.folder.now) _ _ (g.S.Source.left c.args.input.now) c.in-Ok.source.items c.as_slice.result.now c.in-Ok-exec_entry.ready c.in-Ok.ensures.found c.as_slice.ensures.value c.in-Ok-exec_entry.ensures.code _ (c.store_leaving.ensures.code ∙ c.in-Ok-traced.ensures.code)
    c.in-Ok-traced.compiled _ _ c.store_leaving.result (c.in-Ok-traced.ensures.own c.as_slice.result.now c.args.entry.now c.in-Ok-exec_entry.ensures.ready c.in-Ok-exec_entry.ensures.code) c.store_leaving.ensures.fails c.store_leaving.ensures.kept

pub returns-in-Err-traced-clause-made : goal.returns-in-Err-traced-clause-made
returns-in-Err-traced-clause-made g c = untraced c.args.file.now c.args.entry.now c.args.out.now (room_of c.args.room) (g.F.Folder.files c.args.folder.now) (g.F.Folder.files c.args.folder.now) _ (g.S.Source.left c.args.input.now) c.in-Ok.source.items c.as_slice.result.now c.in-Ok-exec_entry.ready c.in-Ok.ensures.found c.as_slice.ensures.value c.in-Ok-exec_entry.ensures.code _ c.in-Err-traced.ensures.code
    c.in-Err-traced.failure (c.in-Err-traced.ensures.own c.as_slice.result.now c.args.entry.now c.in-Ok-exec_entry.ensures.ready c.in-Ok-exec_entry.ensures.code)

pub returns-in-Err-exec_entry-clause-made : goal.returns-in-Err-exec_entry-clause-made
returns-in-Err-exec_entry-clause-made g c = refused (W.Trace c.args.file.now c.args.entry.now c.args.out.now (room_of c.args.room)) (Compiled c.args.entry.now) (λ s k. k) c.args.file.now (g.F.Folder.files c.args.folder.now) _ c.in-Ok.ensures.same c.in-Ok.source.items c.as_slice.result.now c.in-Err-exec_entry.failure c.in-Ok.ensures.found c.as_slice.ensures.value c.in-Err-exec_entry.ensures.kept

pub returns-in-Err-clause-made : goal.returns-in-Err-clause-made
returns-in-Err-clause-made g c = unfetched (W.Trace c.args.file.now c.args.entry.now c.args.out.now (room_of c.args.room)) (Compiled c.args.entry.now) (λ s k. k) c.args.file.now (g.F.Folder.files c.args.folder.now) _ c.in-Err.ensures.same _ _ c.in-Err.failure c.in-Err.ensures.fails

pub returns-in-Ok-traced-clause-apart : goal.returns-in-Ok-traced-clause-apart
returns-in-Ok-traced-clause-apart g c = apart_on _ _ _ _ c.in-Ok-traced.ensures.apart c.store_leaving.ensures.apart
