use Rattle.std.proofs.Common.{refl, subst}
use Rattle.command_words.specs.Words as W
use Rattle.command_answers.specs.command_library.command_source.Derived.{IsDerivedFile}
use Rattle.command_answers.specs.command_library.command_source.Wanted.{Lawful}
use Rattle.fip_driver.specs.Turns.{end_of}
use Rattle.fip_driver.proofs.SourceEnds.{derive_ends, derive_refused, source_ends, fetch_ends}
use Rattle.fip_driver.proofs.Making.{stores_made, stores_none, unfetched}
use Rattle.fip_driver.proofs.Storing.{stored_kept, unstored}
use Rattle.fip_driver.proofs.Counted.{stored_counted, source_counted, fetch_counted}
use Rattle.fip_driver.proofs.derivations.derive.Goals as goal

pub returns-in-Ok-derive-clause-outcome : goal.returns-in-Ok-derive-clause-outcome
returns-in-Ok-derive-clause-outcome g c = λ left. source_ends (W.Derive c.args.file.now c.args.out.now) Lawful c.args.file.now (g.F.Folder.files c.args.folder.now) left _ ⊥ _ _ c.in-Ok.bytes.items c.as_slice.result.now (end_of c.store.result) (λ r. r) (λ r. r) c.in-Ok.ensures.found refl refl c.as_slice.ensures.value (derive_ends c.args.file.now c.args.out.now c.as_slice.result.now c.in-Ok-derive.derived.text.items c.in-Ok-derive.derived.file.items left ⊥ _ _ _ c.store.result c.in-Ok.ensures.later c.in-Ok-derive.ensures.stored c.in-Ok-derive.ensures.derived c.store.ensures.reported c.store.ensures.fails)

pub returns-in-Err-derive-clause-outcome : goal.returns-in-Err-derive-clause-outcome
returns-in-Err-derive-clause-outcome g c = λ left. source_ends (W.Derive c.args.file.now c.args.out.now) Lawful c.args.file.now (g.F.Folder.files c.args.folder.now) left ⊥ ⊥ _ _ c.in-Ok.bytes.items c.as_slice.result.now _ (λ r. absurd r) (λ r. r) c.in-Ok.ensures.found refl refl c.as_slice.ensures.value (derive_refused c.args.file.now c.args.out.now c.as_slice.result.now left ⊥ ⊥ c.in-Err-derive.failure c.in-Err-derive.ensures.kept)

pub returns-in-Err-clause-outcome : goal.returns-in-Err-clause-outcome
returns-in-Err-clause-outcome g c = λ left. fetch_ends (W.Derive c.args.file.now c.args.out.now) Lawful c.args.file.now (g.F.Folder.files c.args.folder.now) left _ _ _ c.in-Err.failure refl refl (λ r. r) c.in-Err.ensures.fails

pub returns-in-Ok-derive-clause-kept : goal.returns-in-Ok-derive-clause-kept
returns-in-Ok-derive-clause-kept g c = λ left. stored_kept (W.Derive c.args.file.now c.args.out.now) left c.args.out.now c.in-Ok-derive.derived.file.items (g.F.Folder.files c.args.folder.now) _ _ _ _ _ c.store.result c.in-Ok.ensures.same c.in-Ok.ensures.later (c.in-Ok.bytes.items, c.in-Ok.ensures.found, subst (λ xs. IsDerivedFile xs c.in-Ok-derive.derived.file.items) c.as_slice.ensures.value c.in-Ok-derive.ensures.stored) c.store.ensures.fails c.store.ensures.kept

pub returns-in-Ok-derive-clause-counted : goal.returns-in-Ok-derive-clause-counted
returns-in-Ok-derive-clause-counted g c = stored_counted (g.F.Folder.files c.args.folder.now) _ _ _ c.store.result c.in-Ok.ensures.later c.store.ensures.fails

pub returns-in-Err-derive-clause-kept : goal.returns-in-Err-derive-clause-kept
returns-in-Err-derive-clause-kept g c = λ left. unstored (W.Derive c.args.file.now c.args.out.now) left c.args.out.now _ (g.F.Folder.files c.args.folder.now) _ c.in-Err-derive.failure c.in-Ok.ensures.same

pub returns-in-Err-derive-clause-counted : goal.returns-in-Err-derive-clause-counted
returns-in-Err-derive-clause-counted g c = source_counted (g.F.Folder.files c.args.folder.now) _ c.in-Err-derive.failure c.in-Err-derive.ensures.stage

pub returns-in-Err-clause-kept : goal.returns-in-Err-clause-kept
returns-in-Err-clause-kept g c = λ left. unstored (W.Derive c.args.file.now c.args.out.now) left c.args.out.now _ (g.F.Folder.files c.args.folder.now) _ c.in-Err.failure c.in-Err.ensures.same

pub returns-in-Err-clause-counted : goal.returns-in-Err-clause-counted
returns-in-Err-clause-counted g c = fetch_counted (g.F.Folder.files c.args.folder.now) c.args.file.now _ _ c.in-Err.failure c.in-Err.ensures.fails

pub returns-in-Ok-derive-clause-made : goal.returns-in-Ok-derive-clause-made
returns-in-Ok-derive-clause-made g c = λ reported made. stores_made IsDerivedFile c.args.file.now c.args.out.now (g.F.Folder.files c.args.folder.now) _ _ c.in-Ok.bytes.items c.as_slice.result.now c.in-Ok.ensures.found c.as_slice.ensures.value c.in-Ok-derive.derived.file.items c.store.result c.in-Ok-derive.ensures.stored c.store.ensures.kept

pub returns-in-Err-derive-clause-made : goal.returns-in-Err-derive-clause-made
returns-in-Err-derive-clause-made g c = λ reported made. stores_none IsDerivedFile c.args.file.now c.args.out.now (g.F.Folder.files c.args.folder.now) (g.F.Folder.files c.args.folder.now) _ c.in-Ok.bytes.items c.as_slice.result.now c.in-Ok.ensures.found c.as_slice.ensures.value c.in-Err-derive.failure

pub returns-in-Err-clause-made : goal.returns-in-Err-clause-made
returns-in-Err-clause-made g c = λ reported made. unfetched (W.Derive c.args.file.now c.args.out.now) Lawful (λ s k. k) c.args.file.now (g.F.Folder.files c.args.folder.now) _ c.in-Err.ensures.same _ _ c.in-Err.failure c.in-Err.ensures.fails
