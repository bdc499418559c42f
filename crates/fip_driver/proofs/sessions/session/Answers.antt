use Rattle.std.proofs.Common.{refl, subst, inl, inr}
use Rattle.command_words.specs.Words as W
use Rattle.command_words.specs.View.{room_of}
use Rattle.fip_trees.specs.TreeView.{program}
use Rattle.command_answers.specs.command_library.command_source.Wanted.{Lawful, IsReady}
use Rattle.command_answers.specs.Ends.{Replies}
use Rattle.fip_driver.specs.Turns.{end_of}
use Rattle.fip_driver.proofs.SourceEnds.{input_ends, kept_ends, source_ends, fetch_ends}
use Rattle.fip_driver.proofs.Counted.{late_counted, source_counted, fetch_counted}
use Rattle.fip_driver.proofs.sessions.session.Goals as goal

pub returns-in-Ok-front-clause-outcome : goal.returns-in-Ok-front-clause-outcome
returns-in-Ok-front-clause-outcome g c = source_ends (W.Session c.args.file.now (room_of c.args.room)) Lawful c.args.file.now (g.F.Folder.files c.args.folder.now) (g.S.Source.left c.args.input.now) ⊥ _ _ _ c.in-Ok.source.items c.as_slice.result.now (end_of c.talk.result) (λ r. absurd r) (λ r. r) c.in-Ok.ensures.found refl refl c.as_slice.ensures.value (input_ends (W.Session c.args.file.now (room_of c.args.room)) Lawful c.as_slice.result.now (g.S.Source.left c.args.input.now) ⊥ _ (λ bytes. Replies c.as_slice.result.now bytes (room_of c.args.room)) (end_of c.talk.result) (record { program = program c.in-Ok-front.front.typed.program; accepted = c.in-Ok-front.ensures.accepted; has = tt }) tt (λ input d m. m) (c.talk.ensures.outcome c.as_slice.result.now (record { accepted = c.in-Ok-front.ensures.accepted; found = c.in-Ok-front.ensures.groups; sound = c.in-Ok-front.ensures.sound; code = c.in-Ok-front.ensures.code })))

pub returns-in-Ok-clause-outcome : goal.returns-in-Ok-clause-outcome
returns-in-Ok-clause-outcome g c = source_ends (W.Session c.args.file.now (room_of c.args.room)) Lawful c.args.file.now (g.F.Folder.files c.args.folder.now) (g.S.Source.left c.args.input.now) ⊥ ⊥ _ _ c.in-Ok.source.items c.as_slice.result.now _ (λ r. absurd r) (λ r. absurd r) c.in-Ok.ensures.found refl refl c.as_slice.ensures.value (kept_ends (W.Session c.args.file.now (room_of c.args.room)) Lawful c.as_slice.result.now (g.S.Source.left c.args.input.now) ⊥ ⊥ c.in-Err-front.failure c.in-Err-front.ensures.kept)

pub returns-clause-outcome : goal.returns-clause-outcome
returns-clause-outcome g c = fetch_ends (W.Session c.args.file.now (room_of c.args.room)) Lawful c.args.file.now (g.F.Folder.files c.args.folder.now) (g.S.Source.left c.args.input.now) _ _ _ c.in-Err.failure refl refl (λ r. r) c.in-Err.ensures.fails

pub returns-in-Ok-front-clause-counted : goal.returns-in-Ok-front-clause-counted
returns-in-Ok-front-clause-counted g c = late_counted (g.F.Folder.files c.args.folder.now) _ c.talk.result c.talk.ensures.late

pub returns-in-Ok-clause-counted : goal.returns-in-Ok-clause-counted
returns-in-Ok-clause-counted g c = source_counted (g.F.Folder.files c.args.folder.now) _ c.in-Err-front.failure c.in-Err-front.ensures.stage

pub returns-clause-counted : goal.returns-clause-counted
returns-clause-counted g c = fetch_counted (g.F.Folder.files c.args.folder.now) c.args.file.now _ _ c.in-Err.failure c.in-Err.ensures.fails

pub returns-in-Ok-front-clause-waits : goal.returns-in-Ok-front-clause-waits
returns-in-Ok-front-clause-waits g c = inr (c.in-Ok.source.items, c.in-Ok.ensures.found, subst (λ xs. IsReady xs Lawful) c.as_slice.ensures.value (record { program = program c.in-Ok-front.front.typed.program; accepted = c.in-Ok-front.ensures.accepted; has = tt }))

pub returns-in-Ok-clause-waits : goal.returns-in-Ok-clause-waits
returns-in-Ok-clause-waits g c = inl refl

pub returns-clause-waits : goal.returns-clause-waits
returns-clause-waits g c = inl refl
