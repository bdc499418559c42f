use Rattle.std.proofs.Common.{◌≡◌, refl}
use Rattle.command_words.specs.Words as W
use Rattle.command_outcome.specs.declared.failure.Failure.TheVariants.{BadCode}
use Rattle.fip_driver.specs.Turns.{end_of}
use Rattle.fip_driver.proofs.CodeEnds.{verify_ends, code_ends, long_code}
use Rattle.fip_driver.proofs.SourceEnds.{missed_ends}
use Rattle.fip_driver.proofs.Counted.{sources_counted, file_counted}
use Rattle.fip_driver.proofs.commands.verify.Goals as goal

pub returns-in-Ok-clause-outcome : goal.returns-in-Ok-clause-outcome
returns-in-Ok-clause-outcome g c = λ left. code_ends (W.Verify c.args.file.now) c.args.file.now (g.F.Folder.files c.args.folder.now) left ⊥ ⊥ _ _ c.in-Ok.bytes.items c.as_slice.result.now (end_of c.verify_file.result) (λ r. absurd r) (λ r. r) c.in-Ok.ensures.found refl (λ all input h. h) c.as_slice.ensures.value (verify_ends c.args.file.now c.as_slice.result.now left ⊥ ⊥ c.verify_file.result c.verify_file.ensures.listed c.verify_file.ensures.kept)

pub returns-in-Err-clause-outcome : goal.returns-in-Err-clause-outcome
returns-in-Err-clause-outcome g c = λ left. missed_ends (W.Verify c.args.file.now) (λ f. f ≡ BadCode 16777216) c.args.file.now (g.F.Folder.files c.args.folder.now) left _ _ _ c.in-Err.failure refl (λ r. r) (long_code (W.Verify c.args.file.now) (λ all bytes input e h. h)) c.in-Err.ensures.fails

pub returns-in-Ok-clause-counted : goal.returns-in-Ok-clause-counted
returns-in-Ok-clause-counted g c = sources_counted (g.F.Folder.files c.args.folder.now) _ c.verify_file.result c.verify_file.ensures.stage

pub returns-in-Err-clause-counted : goal.returns-in-Err-clause-counted
returns-in-Err-clause-counted g c = file_counted (λ f. f ≡ BadCode 16777216) (g.F.Folder.files c.args.folder.now) c.args.file.now _ _ c.in-Err.failure c.in-Err.ensures.fails
