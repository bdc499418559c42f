use Rattle.std.proofs.Common.{◌≡◌, refl, subst, inl, inr}
use Rattle.command_words.specs.Words as W
use Rattle.command_outcome.specs.declared.failure.Failure.TheVariants.{BadCode}
use Rattle.command_answers.specs.command_library.command_source.Codes.{HasFunction}
use Rattle.fip_driver.specs.Turns.{end_of}
use Rattle.command_words.specs.View.{request_of}
use Rattle.fip_driver.proofs.CodeEnds.{run_ends, run_refused, code_ends, long_code}
use Rattle.fip_driver.proofs.SourceEnds.{missed_ends}
use Rattle.command_answers.specs.command_library.command_source.Entries.{IsFunctionOf}
use Rattle.command_answers.specs.command_library.command_run.CodeRun.{is_run_end}
use Rattle.fip_driver.specs.Left.{LeftOn}
use Rattle.fip_driver.specs.Outcome.{Remains}
use Rattle.fip_driver.proofs.Remains.{early_ran, source_ran, leaves_run}
use Rattle.fip_driver.proofs.Counted.{late_counted, source_counted, file_counted}
use Rattle.fip_driver.proofs.exec.run.Goals as goal

pub returns-in-Ok-run_entry-clause-outcome : goal.returns-in-Ok-run_entry-clause-outcome
returns-in-Ok-run_entry-clause-outcome g c = code_ends (W.Run (request_of c.args.request.now)) c.args.request.now.file.now (g.F.Folder.files c.args.folder.now) (g.S.Source.left c.args.input.now) ⊥ _ _ _ c.in-Ok.bytes.items c.as_slice.result.now (end_of c.run_ready.result) (λ r. absurd r) (λ r. r) c.in-Ok.ensures.found refl (λ all input h. h) c.as_slice.ensures.value (run_ends (request_of c.args.request.now) c.as_slice.result.now (g.S.Source.left c.args.input.now) ⊥ _ (end_of c.run_ready.result) c.in-Ok-run_entry.ensures.ready (c.run_ready.ensures.runs c.as_slice.result.now c.args.request.now.entry.now c.in-Ok-run_entry.ensures.code))

pub returns-in-Ok-clause-outcome : goal.returns-in-Ok-clause-outcome
returns-in-Ok-clause-outcome g c = code_ends (W.Run (request_of c.args.request.now)) c.args.request.now.file.now (g.F.Folder.files c.args.folder.now) (g.S.Source.left c.args.input.now) ⊥ ⊥ _ _ c.in-Ok.bytes.items c.as_slice.result.now _ (λ r. absurd r) (λ r. absurd r) c.in-Ok.ensures.found refl (λ all input h. h) c.as_slice.ensures.value (run_refused (request_of c.args.request.now) c.as_slice.result.now (g.S.Source.left c.args.input.now) ⊥ ⊥ c.in-Err-run_entry.failure c.in-Err-run_entry.ensures.kept)

pub returns-clause-outcome : goal.returns-clause-outcome
returns-clause-outcome g c = missed_ends (W.Run (request_of c.args.request.now)) (λ f. f ≡ BadCode 16777216) c.args.request.now.file.now (g.F.Folder.files c.args.folder.now) (g.S.Source.left c.args.input.now) _ _ _ c.in-Err.failure refl (λ r. r) (long_code (W.Run (request_of c.args.request.now)) (λ all bytes input e h. h)) c.in-Err.ensures.fails

pub returns-in-Ok-run_entry-clause-counted : goal.returns-in-Ok-run_entry-clause-counted
returns-in-Ok-run_entry-clause-counted g c = late_counted (g.F.Folder.files c.args.folder.now) _ c.run_ready.result c.run_ready.ensures.late

pub returns-in-Ok-clause-counted : goal.returns-in-Ok-clause-counted
returns-in-Ok-clause-counted g c = source_counted (g.F.Folder.files c.args.folder.now) _ c.in-Err-run_entry.failure c.in-Err-run_entry.ensures.stage

pub returns-clause-counted : goal.returns-clause-counted
returns-clause-counted g c = file_counted (λ f. f ≡ BadCode 16777216) (g.F.Folder.files c.args.folder.now) c.args.request.now.file.now _ _ c.in-Err.failure c.in-Err.ensures.fails

pub returns-in-Ok-run_entry-clause-waits : goal.returns-in-Ok-run_entry-clause-waits
returns-in-Ok-run_entry-clause-waits g c = inr (c.in-Ok.bytes.items, c.in-Ok.ensures.found, subst (λ xs. HasFunction xs c.args.request.now.entry.now) c.as_slice.ensures.value c.in-Ok-run_entry.ensures.ready)

pub returns-in-Ok-clause-waits : goal.returns-in-Ok-clause-waits
returns-in-Ok-clause-waits g c = inl refl

pub returns-clause-waits : goal.returns-clause-waits
returns-clause-waits g c = inl refl

pub returns-in-Ok-run_entry-clause-left : goal.returns-in-Ok-run_entry-clause-left
returns-in-Ok-run_entry-clause-left g c = leaves_run (request_of c.args.request.now) (g.F.Folder.files c.args.folder.now) (g.S.Source.left c.args.input.now) c.in-Ok.bytes.items _ c.run_ready.new.left c.in-Ok.ensures.found
    (subst (λ xs. Remains (LeftOn (IsFunctionOf xs c.args.request.now.entry.now) (g.S.Source.left c.args.input.now) (request_of c.args.request.now).room) (is_run_end c.run_ready.result) c.run_ready.new.left) c.as_slice.ensures.value
    (c.run_ready.ensures.coded c.as_slice.result.now c.args.request.now.entry.now c.in-Ok-run_entry.ensures.code))

pub returns-in-Ok-clause-left : goal.returns-in-Ok-clause-left
returns-in-Ok-clause-left g c = λ cells. source_ran c.in-Err-run_entry.failure c.in-Err-run_entry.ensures.stage

pub returns-clause-left : goal.returns-clause-left
returns-clause-left g c = λ cells. early_ran c.in-Err.failure c.in-Err.ensures.early
