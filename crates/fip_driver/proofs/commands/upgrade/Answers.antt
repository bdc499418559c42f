use Rattle.std.proofs.Common.{◌≡◌, refl, subst}
use Rattle.command_answers.specs.command_library.command_source.Codes.{IsUpgraded}
use Rattle.command_words.specs.Words as W
use Rattle.command_outcome.specs.declared.failure.Failure.TheVariants.{BadCode}
use Rattle.fip_driver.specs.Turns.{end_of}
use Rattle.fip_driver.proofs.CodeEnds.{upgrade_ends, upgrade_refused, code_ends, long_code}
use Rattle.fip_driver.proofs.SourceEnds.{missed_ends}
use Rattle.fip_driver.proofs.Making.{stores_made, stores_none, code_unfetched}
use Rattle.fip_driver.proofs.Storing.{stored_kept, unstored}
use Rattle.fip_driver.proofs.Counted.{stored_counted, source_counted, file_counted}
use Rattle.fip_driver.proofs.commands.upgrade.Goals as goal

pub returns-in-Ok-upgrade-clause-outcome : goal.returns-in-Ok-upgrade-clause-outcome
returns-in-Ok-upgrade-clause-outcome g c = λ left. code_ends (W.Upgrade c.args.file.now c.args.out.now) c.args.file.now (g.F.Folder.files c.args.folder.now) left _ ⊥ _ _ c.in-Ok.bytes.items c.as_slice.result.now (end_of c.store.result) (λ r. r) (λ r. r) c.in-Ok.ensures.found refl (λ all input h. h) c.as_slice.ensures.value (upgrade_ends c.args.file.now c.args.out.now c.as_slice.result.now c.in-Ok-upgrade.compiled.text.items c.in-Ok-upgrade.compiled.file.items left ⊥ _ _ _ c.store.result c.in-Ok.ensures.later c.in-Ok-upgrade.ensures.listed c.in-Ok-upgrade.ensures.spelt c.store.ensures.reported c.store.ensures.fails)

pub returns-in-Err-upgrade-clause-outcome : goal.returns-in-Err-upgrade-clause-outcome
returns-in-Err-upgrade-clause-outcome g c = λ left. code_ends (W.Upgrade c.args.file.now c.args.out.now) c.args.file.now (g.F.Folder.files c.args.folder.now) left ⊥ ⊥ _ _ c.in-Ok.bytes.items c.as_slice.result.now _ (λ r. absurd r) (λ r. r) c.in-Ok.ensures.found refl (λ all input h. h) c.as_slice.ensures.value (upgrade_refused c.args.file.now c.args.out.now c.as_slice.result.now left ⊥ ⊥ c.in-Err-upgrade.failure c.in-Err-upgrade.ensures.kept)

pub returns-in-Err-clause-outcome : goal.returns-in-Err-clause-outcome
returns-in-Err-clause-outcome g c = λ left. missed_ends (W.Upgrade c.args.file.now c.args.out.now) (λ f. f ≡ BadCode 16777216) c.args.file.now (g.F.Folder.files c.args.folder.now) left _ _ _ c.in-Err.failure refl (λ r. r) (long_code (W.Upgrade c.args.file.now c.args.out.now) (λ all bytes input e h. h)) c.in-Err.ensures.fails

pub returns-in-Ok-upgrade-clause-kept : goal.returns-in-Ok-upgrade-clause-kept
returns-in-Ok-upgrade-clause-kept g c = λ left. stored_kept (W.Upgrade c.args.file.now c.args.out.now) left c.args.out.now c.in-Ok-upgrade.compiled.file.items (g.F.Folder.files c.args.folder.now) _ _ _ _ _ c.store.result c.in-Ok.ensures.same c.in-Ok.ensures.later (c.in-Ok.bytes.items, c.in-Ok.ensures.found, subst (λ xs. IsUpgraded xs c.in-Ok-upgrade.compiled.file.items) c.as_slice.ensures.value c.in-Ok-upgrade.ensures.spelt) c.store.ensures.fails c.store.ensures.kept

pub returns-in-Ok-upgrade-clause-counted : goal.returns-in-Ok-upgrade-clause-counted
returns-in-Ok-upgrade-clause-counted g c = stored_counted (g.F.Folder.files c.args.folder.now) _ _ _ c.store.result c.in-Ok.ensures.later c.store.ensures.fails

pub returns-in-Err-upgrade-clause-kept : goal.returns-in-Err-upgrade-clause-kept
returns-in-Err-upgrade-clause-kept g c = λ left. unstored (W.Upgrade c.args.file.now c.args.out.now) left c.args.out.now _ (g.F.Folder.files c.args.folder.now) _ c.in-Err-upgrade.failure c.in-Ok.ensures.same

pub returns-in-Err-upgrade-clause-counted : goal.returns-in-Err-upgrade-clause-counted
returns-in-Err-upgrade-clause-counted g c = source_counted (g.F.Folder.files c.args.folder.now) _ c.in-Err-upgrade.failure c.in-Err-upgrade.ensures.stage

pub returns-in-Err-clause-kept : goal.returns-in-Err-clause-kept
returns-in-Err-clause-kept g c = λ left. unstored (W.Upgrade c.args.file.now c.args.out.now) left c.args.out.now _ (g.F.Folder.files c.args.folder.now) _ c.in-Err.failure c.in-Err.ensures.same

pub returns-in-Err-clause-counted : goal.returns-in-Err-clause-counted
returns-in-Err-clause-counted g c = file_counted (λ f. f ≡ BadCode 16777216) (g.F.Folder.files c.args.folder.now) c.args.file.now _ _ c.in-Err.failure c.in-Err.ensures.fails

pub returns-in-Ok-upgrade-clause-made : goal.returns-in-Ok-upgrade-clause-made
returns-in-Ok-upgrade-clause-made g c = λ reported made. stores_made IsUpgraded c.args.file.now c.args.out.now (g.F.Folder.files c.args.folder.now) _ _ c.in-Ok.bytes.items c.as_slice.result.now c.in-Ok.ensures.found c.as_slice.ensures.value c.in-Ok-upgrade.compiled.file.items c.store.result c.in-Ok-upgrade.ensures.spelt c.store.ensures.kept

pub returns-in-Err-upgrade-clause-made : goal.returns-in-Err-upgrade-clause-made
returns-in-Err-upgrade-clause-made g c = λ reported made. stores_none IsUpgraded c.args.file.now c.args.out.now (g.F.Folder.files c.args.folder.now) (g.F.Folder.files c.args.folder.now) _ c.in-Ok.bytes.items c.as_slice.result.now c.in-Ok.ensures.found c.as_slice.ensures.value c.in-Err-upgrade.failure

pub returns-in-Err-clause-made : goal.returns-in-Err-clause-made
returns-in-Err-clause-made g c = λ reported made. code_unfetched (W.Upgrade c.args.file.now c.args.out.now) c.args.file.now (g.F.Folder.files c.args.folder.now) _ _ _ 16777216 c.in-Err.failure c.in-Err.ensures.same c.in-Err.ensures.fails
