use Rattle.std.proofs.Common.{ap, inl, inr, refl, Err}
use Rattle.fip_proof.specs.derivation_trees.Trees.{entries}
use Rattle.fip_trees.specs.TreeView.{program}
use Rattle.command_source.proofs.Judging.{bad_rejected, right_accepted, wrong_rejected}
use Rattle.command_source.proofs.derivations.audit.Goals as goal

pub returns-then-proof-gt-MOST_FILE_BYTES-clause-rejected : goal.returns-then-proof-gt-MOST_FILE_BYTES-clause-rejected
returns-then-proof-gt-MOST_FILE_BYTES-clause-rejected c = bad_rejected c.args.proof.now (program c.args.typed.now.program) 16777216 c.bad_proof.result (inl (c.if-proof-gt-MOST_FILE_BYTES.true, refl)) c.bad_proof.ensures.names

pub returns-in-Err-BadProof-clause-rejected : goal.returns-in-Err-BadProof-clause-rejected
returns-in-Err-BadProof-clause-rejected c =
    let bad = inr (c.if-proof-gt-MOST_FILE_BYTES.false, c.in-Err-BadProof.ensures.place c.in-Err-BadProof.at (ap Err c.in-Err-BadProof.field-0-is)) in
    bad_rejected c.args.proof.now (program c.args.typed.now.program) c.in-Err-BadProof.at c.bad_proof-in-Err-BadProof.result bad c.bad_proof-in-Err-BadProof.ensures.names

pub returns-in-Ok-clause-accepted : goal.returns-in-Ok-clause-accepted
returns-in-Ok-clause-accepted c = right_accepted c.args.proof.now (program c.args.typed.now.program) (entries c.in-Ok.derivation) c.if-proof-gt-MOST_FILE_BYTES.false c.in-Ok.ensures.text c.judge.result c.judge.ensures.right

pub returns-in-Ok-clause-rejected : goal.returns-in-Ok-clause-rejected
returns-in-Ok-clause-rejected c = wrong_rejected c.args.proof.now (program c.args.typed.now.program) (entries c.in-Ok.derivation) c.if-proof-gt-MOST_FILE_BYTES.false c.in-Ok.ensures.text c.judge.result c.in-Ok.ensures.only c.judge.ensures.wrong
