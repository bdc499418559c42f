use Rattle.std.specs.Prelude.{Err}
use Rattle.fip_trees.specs.TreeView.{program}
use Rattle.command_answers.specs.command_library.command_source.Judged.{IsBadProof}
use Rattle.fip_driver.proofs.SourceEnds.{judged_failed, judged_accepted, bad_fails}
use Rattle.fip_driver.proofs.Counted.{sources_counted, judged_counted}
use Rattle.fip_driver.proofs.derivations.judge.Goals as goal

pub returns-in-Ok-clause-accepted : goal.returns-in-Ok-clause-accepted
returns-in-Ok-clause-accepted g c = judged_accepted (program c.args.typed.now.program) (g.F.Folder.files c.args.folder.now) c.args.proof.now c.in-Ok.bytes.items c.as_slice.result.now c.in-Ok.ensures.found c.as_slice.ensures.value c.audit.result c.audit.ensures.accepted

pub returns-in-Ok-clause-fails : goal.returns-in-Ok-clause-fails
returns-in-Ok-clause-fails g c = judged_failed (program c.args.typed.now.program) (g.F.Folder.files c.args.folder.now) c.args.proof.now c.in-Ok.bytes.items c.as_slice.result.now c.in-Ok.ensures.found c.as_slice.ensures.value _ _ c.audit.result c.audit.ensures.rejected

pub returns-in-Ok-clause-counted : goal.returns-in-Ok-clause-counted
returns-in-Ok-clause-counted g c = sources_counted (g.F.Folder.files c.args.folder.now) _ c.audit.result c.audit.ensures.stage

pub returns-in-Err-clause-fails : goal.returns-in-Err-clause-fails
returns-in-Err-clause-fails g c = bad_fails (program c.args.typed.now.program) (g.F.Folder.files c.args.folder.now) c.args.proof.now _ _ c.in-Err.failure c.in-Err.ensures.fails

pub returns-in-Err-clause-counted : goal.returns-in-Err-clause-counted
returns-in-Err-clause-counted g c = judged_counted IsBadProof (g.F.Folder.files c.args.folder.now) c.args.proof.now _ _ (Err c.in-Err.failure) c.in-Err.ensures.fails
