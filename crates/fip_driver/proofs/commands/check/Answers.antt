use Rattle.std.proofs.Common.{refl}
use Rattle.command_words.specs.Words as W
use Rattle.command_answers.specs.command_library.command_source.Wanted.{Lawful}
use Rattle.fip_driver.specs.Turns.{end_of}
use Rattle.fip_driver.proofs.SourceEnds.{check_ends, source_ends, fetch_ends}
use Rattle.fip_driver.proofs.Counted.{sources_counted, fetch_counted}
use Rattle.fip_driver.proofs.commands.check.Goals as goal

pub returns-in-Ok-clause-outcome : goal.returns-in-Ok-clause-outcome
returns-in-Ok-clause-outcome g c = λ left. source_ends (W.Check c.args.file.now) Lawful c.args.file.now (g.F.Folder.files c.args.folder.now) left ⊥ ⊥ _ _ c.in-Ok.bytes.items c.as_slice.result.now (end_of c.check.result) (λ r. absurd r) (λ r. r) c.in-Ok.ensures.found refl refl c.as_slice.ensures.value (check_ends c.args.file.now c.as_slice.result.now left ⊥ ⊥ c.check.result c.check.ensures.listed c.check.ensures.kept)

pub returns-in-Err-clause-outcome : goal.returns-in-Err-clause-outcome
returns-in-Err-clause-outcome g c = λ left. fetch_ends (W.Check c.args.file.now) Lawful c.args.file.now (g.F.Folder.files c.args.folder.now) left _ _ _ c.in-Err.failure refl refl (λ r. r) c.in-Err.ensures.fails

pub returns-in-Ok-clause-counted : goal.returns-in-Ok-clause-counted
returns-in-Ok-clause-counted g c = sources_counted (g.F.Folder.files c.args.folder.now) _ c.check.result c.check.ensures.stage

pub returns-in-Err-clause-counted : goal.returns-in-Err-clause-counted
returns-in-Err-clause-counted g c = fetch_counted (g.F.Folder.files c.args.folder.now) c.args.file.now _ _ c.in-Err.failure c.in-Err.ensures.fails
