use Rattle.std.proofs.Common.{refl, subst, inl, inr}
use Rattle.command_words.specs.View.{request_of}
use Rattle.command_words.specs.Words as W
use Rattle.command_answers.specs.command_library.command_source.Wanted.{Compiled, IsReady}
use Rattle.fip_driver.specs.Turns.{end_of}
use Rattle.fip_driver.proofs.SourceEnds.{executed_ends, kept_ends, source_ends, fetch_ends}
use Rattle.command_answers.specs.command_library.command_source.ProgramCode.{IsEntryOf}
use Rattle.command_answers.specs.command_library.command_run.CodeRun.{is_run_end}
use Rattle.fip_driver.specs.Left.{LeftOn}
use Rattle.fip_driver.specs.Outcome.{Remains}
use Rattle.fip_driver.proofs.Remains.{fetch_ran, source_ran, leaves_exec}
use Rattle.fip_driver.proofs.Counted.{late_counted, source_counted, fetch_counted}
use Rattle.fip_driver.proofs.exec.exec.Goals as goal

pub returns-in-Ok-exec_entry-clause-outcome : goal.returns-in-Ok-exec_entry-clause-outcome
returns-in-Ok-exec_entry-clause-outcome g c = source_ends (W.Exec (request_of c.args.request.now)) (Compiled c.args.request.now.entry.now) c.args.request.now.file.now (g.F.Folder.files c.args.folder.now) (g.S.Source.left c.args.input.now) ⊥ _ _ _ c.in-Ok.source.items c.as_slice.result.now (end_of c.run_ready.result) (λ r. absurd r) (λ r. r) c.in-Ok.ensures.found refl refl c.as_slice.ensures.value (executed_ends (request_of c.args.request.now) c.as_slice.result.now (g.S.Source.left c.args.input.now) ⊥ _ (end_of c.run_ready.result) c.in-Ok-exec_entry.ensures.ready (c.run_ready.ensures.means c.as_slice.result.now c.args.request.now.entry.now c.in-Ok-exec_entry.ensures.ready c.in-Ok-exec_entry.ensures.code))

pub returns-in-Ok-clause-outcome : goal.returns-in-Ok-clause-outcome
returns-in-Ok-clause-outcome g c = source_ends (W.Exec (request_of c.args.request.now)) (Compiled c.args.request.now.entry.now) c.args.request.now.file.now (g.F.Folder.files c.args.folder.now) (g.S.Source.left c.args.input.now) ⊥ ⊥ _ _ c.in-Ok.source.items c.as_slice.result.now _ (λ r. absurd r) (λ r. absurd r) c.in-Ok.ensures.found refl refl c.as_slice.ensures.value (kept_ends (W.Exec (request_of c.args.request.now)) (Compiled c.args.request.now.entry.now) c.as_slice.result.now (g.S.Source.left c.args.input.now) ⊥ ⊥ c.in-Err-exec_entry.failure c.in-Err-exec_entry.ensures.kept)

pub returns-clause-outcome : goal.returns-clause-outcome
returns-clause-outcome g c = fetch_ends (W.Exec (request_of c.args.request.now)) (Compiled c.args.request.now.entry.now) c.args.request.now.file.now (g.F.Folder.files c.args.folder.now) (g.S.Source.left c.args.input.now) _ _ _ c.in-Err.failure refl refl (λ r. r) c.in-Err.ensures.fails

pub returns-in-Ok-exec_entry-clause-counted : goal.returns-in-Ok-exec_entry-clause-counted
returns-in-Ok-exec_entry-clause-counted g c = late_counted (g.F.Folder.files c.args.folder.now) _ c.run_ready.result c.run_ready.ensures.late

pub returns-in-Ok-clause-counted : goal.returns-in-Ok-clause-counted
returns-in-Ok-clause-counted g c = source_counted (g.F.Folder.files c.args.folder.now) _ c.in-Err-exec_entry.failure c.in-Err-exec_entry.ensures.stage

pub returns-clause-counted : goal.returns-clause-counted
returns-clause-counted g c = fetch_counted (g.F.Folder.files c.args.folder.now) c.args.request.now.file.now _ _ c.in-Err.failure c.in-Err.ensures.fails

pub returns-in-Ok-exec_entry-clause-waits : goal.returns-in-Ok-exec_entry-clause-waits
returns-in-Ok-exec_entry-clause-waits g c = inr (c.in-Ok.source.items, c.in-Ok.ensures.found, subst (λ xs. IsReady xs (Compiled c.args.request.now.entry.now)) c.as_slice.ensures.value c.in-Ok-exec_entry.ensures.ready)

pub returns-in-Ok-clause-waits : goal.returns-in-Ok-clause-waits
returns-in-Ok-clause-waits g c = inl refl

pub returns-clause-waits : goal.returns-clause-waits
returns-clause-waits g c = inl refl

pub returns-in-Ok-exec_entry-clause-left : goal.returns-in-Ok-exec_entry-clause-left
returns-in-Ok-exec_entry-clause-left g c = leaves_exec (request_of c.args.request.now) (g.F.Folder.files c.args.folder.now) (g.S.Source.left c.args.input.now) c.in-Ok.source.items _ c.run_ready.new.left c.in-Ok.ensures.found
    (subst (λ xs. Remains (LeftOn (IsEntryOf xs c.args.request.now.entry.now) (g.S.Source.left c.args.input.now) (request_of c.args.request.now).room) (is_run_end c.run_ready.result) c.run_ready.new.left) c.as_slice.ensures.value
    (c.run_ready.ensures.meant c.as_slice.result.now c.args.request.now.entry.now c.in-Ok-exec_entry.ensures.ready c.in-Ok-exec_entry.ensures.code))

pub returns-in-Ok-clause-left : goal.returns-in-Ok-clause-left
returns-in-Ok-clause-left g c = λ cells. source_ran c.in-Err-exec_entry.failure c.in-Err-exec_entry.ensures.stage

pub returns-clause-left : goal.returns-clause-left
returns-clause-left g c = λ cells. fetch_ran (g.F.Folder.files c.args.folder.now) c.args.request.now.file.now _ _ c.in-Err.failure c.in-Err.ensures.fails
