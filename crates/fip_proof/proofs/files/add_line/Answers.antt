use Rattle.std.proofs.Common.{[], ◌++◌, ap, refl, Err}
use Rattle.derivation_trees.specs.Trees.{Tree, Entry, entry}
use Rattle.derivation_text.specs.Limited.{Limited}
use Rattle.derivation_text.specs.ProofText.{line_text}
use Rattle.fip_proof.proofs.Lengths.{line_short}
use Rattle.fip_proof.proofs.files.add_line.Goals as goal

pub returns-in-Ok-clause-long : goal.returns-in-Ok-clause-long
returns-in-Ok-clause-long c =
    let l = c.in-Ok.line in
    let old = c.args.text.now in
    let tree : Tree = (entry l).tree in
    let new : Limited = record { bytes = old.bytes ++ line_text (entry l) []; limit = old.limit } in
    λ h. (
      new,
      record {
        tree = tree;
        whole = c.in-Ok.ensures.tree.0;
        walked = c.in-Ok.ensures.walked;
        bytes = ap (λ n. old.bytes ++ line_text (record { instance = n; tree = tree }) []) c.in-Ok.ensures.instance;
        limit = refl;
      },
      c.line.ensures.long c.in-Ok.ensures.tree h,
    )

pub returns-in-Err-TooLong-clause-long : goal.returns-in-Err-TooLong-clause-long
returns-in-Err-TooLong-clause-long c =
    let old = c.args.text.now in
    let z = c.in-Err-TooLong.ensures.long (ap Err c.in-Err-TooLong.field-0-is) in
    let e : Entry = record { instance = c.args.number; tree = z.0 } in
    let new : Limited = record { bytes = old.bytes ++ line_text e []; limit = old.limit } in
    λ h. (
      new,
      record { tree = z.0; whole = z.1; walked = z.2; bytes = refl; limit = refl },
      line_short e old.bytes old.limit c.room.result c.room.ensures z.3,
    )
