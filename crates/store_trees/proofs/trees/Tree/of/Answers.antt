use Rattle.std.proofs.Common.{arith}
use Rattle.store_trees.proofs.Walking.{odd_root, some}
use Rattle.store_trees.proofs.trees.Tree.of.Goals as goal

pub returns-then-word-from : goal.returns-then-word-from
returns-then-word-from g c = λ small tb x h q.
    let r = odd_root tb (g.C.Cells.cells c.args.cells.now) c.args.ty c.args.word x (some c.args.ty c.if-ty-eq0.false) c.if-word-eq0.false h q in
    let within = r.within in
    let past = c.if-word-from.true in
    let most = c.from.ensures in
    absurd (omega (arith, within, past, most, small))
