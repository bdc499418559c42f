use Rattle.fip_trees.specs.TreeView.{program}
use Rattle.fip_driver.proofs.SourceEnds.{judged_ends, reported_ends, audit_unfetched}
use Rattle.fip_driver.proofs.Counted.{counted_later, source_counted, fetch_counted}
use Rattle.fip_driver.proofs.derivations.audit.Goals as goal

pub returns-in-Ok-typed_of-clause-outcome : goal.returns-in-Ok-typed_of-clause-outcome
returns-in-Ok-typed_of-clause-outcome g c = λ left. judged_ends c.args.file.now c.args.proof.now (g.F.Folder.files c.args.folder.now) _ left ⊥ c.in-Ok.source.items c.as_slice.result.now (program c.in-Ok-typed_of.typed.program) _ _ _ c.judge.result c.in-Ok.ensures.found c.in-Ok.ensures.same c.in-Ok.ensures.later c.as_slice.ensures.value c.in-Ok-typed_of.ensures.typed c.judge.ensures.derived c.judge.ensures.accepted c.judge.ensures.fails

pub returns-in-Ok-clause-outcome : goal.returns-in-Ok-clause-outcome
returns-in-Ok-clause-outcome g c = λ left. reported_ends c.args.file.now c.args.proof.now (g.F.Folder.files c.args.folder.now) left _ _ c.in-Ok.source.items c.as_slice.result.now c.in-Err-typed_of.failure c.in-Ok.ensures.found c.as_slice.ensures.value c.in-Err-typed_of.ensures.reported

pub returns-clause-outcome : goal.returns-clause-outcome
returns-clause-outcome g c = λ left. audit_unfetched c.args.file.now c.args.proof.now (g.F.Folder.files c.args.folder.now) left _ _ _ c.in-Err.failure c.in-Err.ensures.fails

pub returns-in-Ok-typed_of-clause-counted : goal.returns-in-Ok-typed_of-clause-counted
returns-in-Ok-typed_of-clause-counted g c = counted_later (g.F.Folder.files c.args.folder.now) _ _ _ _ c.judge.result c.in-Ok.ensures.same c.in-Ok.ensures.later c.judge.ensures.counted

pub returns-in-Ok-clause-counted : goal.returns-in-Ok-clause-counted
returns-in-Ok-clause-counted g c = source_counted (g.F.Folder.files c.args.folder.now) _ c.in-Err-typed_of.failure c.in-Err-typed_of.ensures.stage

pub returns-clause-counted : goal.returns-clause-counted
returns-clause-counted g c = fetch_counted (g.F.Folder.files c.args.folder.now) c.args.file.now _ _ c.in-Err.failure c.in-Err.ensures.fails
