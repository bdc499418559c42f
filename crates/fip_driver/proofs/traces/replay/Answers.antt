use Rattle.std.proofs.Common.{◌≡◌, refl}
use Rattle.command_words.specs.Words as W
use Rattle.command_outcome.specs.declared.failure.Failure.TheVariants.{BadTrace}
use Rattle.fip_driver.proofs.SourceEnds.{replay_ends, missed_ends, long_trace}
use Rattle.fip_driver.proofs.Counted.{replay_counted, file_counted}
use Rattle.fip_driver.proofs.traces.replay.Goals as goal

pub returns-in-Ok-clause-outcome : goal.returns-in-Ok-clause-outcome
returns-in-Ok-clause-outcome g c = λ left. replay_ends c.args.name.now c.args.step (g.F.Folder.files c.args.folder.now) left _ _ c.in-Ok.bytes.items c.as_slice.result.now c.replay.result c.in-Ok.ensures.found c.as_slice.ensures.value c.replay.ensures.shown c.replay.ensures.bad

pub returns-in-Ok-clause-counted : goal.returns-in-Ok-clause-counted
returns-in-Ok-clause-counted g c = replay_counted (g.F.Folder.files c.args.folder.now) _ c.replay.result c.replay.ensures.stage

pub returns-in-Err-clause-outcome : goal.returns-in-Err-clause-outcome
returns-in-Err-clause-outcome g c = λ left. missed_ends (W.Replay c.args.name.now c.args.step) (λ f. f ≡ BadTrace 16777216) c.args.name.now (g.F.Folder.files c.args.folder.now) left _ _ _ c.in-Err.failure refl (λ r. r) (long_trace c.args.name.now c.args.step) c.in-Err.ensures.fails

pub returns-in-Err-clause-counted : goal.returns-in-Err-clause-counted
returns-in-Err-clause-counted g c = file_counted (λ f. f ≡ BadTrace 16777216) (g.F.Folder.files c.args.folder.now) c.args.name.now _ _ c.in-Err.failure c.in-Err.ensures.fails
