use Rattle.std.proofs.Common.{refl, subst, inl, inr}
use Rattle.command_words.specs.Words as W
use Rattle.command_answers.specs.command_library.command_source.Wanted.{Root, IsReady}
use Rattle.fip_driver.specs.Turns.{end_of}
use Rattle.fip_driver.proofs.SourceEnds.{evaluated_ends, kept_ends, source_ends, fetch_ends}
use Rattle.fip_driver.proofs.Counted.{late_counted, source_counted, fetch_counted}
use Rattle.fip_driver.proofs.commands.eval.Goals as goal

pub returns-in-Ok-eval_entry-clause-outcome : goal.returns-in-Ok-eval_entry-clause-outcome
returns-in-Ok-eval_entry-clause-outcome g c = source_ends (W.Eval c.args.file.now c.args.entry.now c.args.room.calls c.args.room.frames) (Root c.args.entry.now) c.args.file.now (g.F.Folder.files c.args.folder.now) (g.S.Source.left c.args.input.now) ⊥ _ _ _ c.in-Ok.source.items c.as_slice.result.now (end_of c.evaluate.result) (λ r. absurd r) (λ r. r) c.in-Ok.ensures.found refl refl c.as_slice.ensures.value (evaluated_ends c.args.file.now c.args.entry.now c.as_slice.result.now c.args.room.calls c.args.room.frames (g.S.Source.left c.args.input.now) ⊥ _ (end_of c.evaluate.result) c.in-Ok-eval_entry.ensures.ready (c.evaluate.ensures.outcome c.as_slice.result.now c.args.entry.now c.in-Ok-eval_entry.ensures.found))

pub returns-in-Ok-clause-outcome : goal.returns-in-Ok-clause-outcome
returns-in-Ok-clause-outcome g c = source_ends (W.Eval c.args.file.now c.args.entry.now c.args.room.calls c.args.room.frames) (Root c.args.entry.now) c.args.file.now (g.F.Folder.files c.args.folder.now) (g.S.Source.left c.args.input.now) ⊥ ⊥ _ _ c.in-Ok.source.items c.as_slice.result.now _ (λ r. absurd r) (λ r. absurd r) c.in-Ok.ensures.found refl refl c.as_slice.ensures.value (kept_ends (W.Eval c.args.file.now c.args.entry.now c.args.room.calls c.args.room.frames) (Root c.args.entry.now) c.as_slice.result.now (g.S.Source.left c.args.input.now) ⊥ ⊥ c.in-Err-eval_entry.failure c.in-Err-eval_entry.ensures.kept)

pub returns-clause-outcome : goal.returns-clause-outcome
returns-clause-outcome g c = fetch_ends (W.Eval c.args.file.now c.args.entry.now c.args.room.calls c.args.room.frames) (Root c.args.entry.now) c.args.file.now (g.F.Folder.files c.args.folder.now) (g.S.Source.left c.args.input.now) _ _ _ c.in-Err.failure refl refl (λ r. r) c.in-Err.ensures.fails

pub returns-in-Ok-eval_entry-clause-counted : goal.returns-in-Ok-eval_entry-clause-counted
returns-in-Ok-eval_entry-clause-counted g c = late_counted (g.F.Folder.files c.args.folder.now) _ c.evaluate.result c.evaluate.ensures.late

pub returns-in-Ok-clause-counted : goal.returns-in-Ok-clause-counted
returns-in-Ok-clause-counted g c = source_counted (g.F.Folder.files c.args.folder.now) _ c.in-Err-eval_entry.failure c.in-Err-eval_entry.ensures.stage

pub returns-clause-counted : goal.returns-clause-counted
returns-clause-counted g c = fetch_counted (g.F.Folder.files c.args.folder.now) c.args.file.now _ _ c.in-Err.failure c.in-Err.ensures.fails

pub returns-in-Ok-eval_entry-clause-waits : goal.returns-in-Ok-eval_entry-clause-waits
returns-in-Ok-eval_entry-clause-waits g c = inr (c.in-Ok.source.items, c.in-Ok.ensures.found, subst (λ xs. IsReady xs (Root c.args.entry.now)) c.as_slice.ensures.value c.in-Ok-eval_entry.ensures.ready)

pub returns-in-Ok-clause-waits : goal.returns-in-Ok-clause-waits
returns-in-Ok-clause-waits g c = inl refl

pub returns-clause-waits : goal.returns-clause-waits
returns-clause-waits g c = inl refl
