use Rattle.std.proofs.Common.{arith, ap}
use Rattle.derivation_check.specs.Owned.{amount}
use Rattle.ownership_calculus.specs.Terms.{charge}
use Rattle.derivation_check.proofs.Splitting.{split_least}
use Rattle.derivation_check.proofs.values.splits_charged.Goals as goal

pub returns-then-not-take_marked-clause-complete : goal.returns-then-not-take_marked-clause-complete
returns-then-not-take_marked-clause-complete c h =
    let g = c.take_marked.ensures.out_of_memory (λ k. let e = split_least c.args.next c.args.nodes.now c.args.found.now.first c.args.found.now.node.now (charge c.args.sizes.now) h k in let f = c.of-counts.ensures.counted k in let q = ap (amount k) c.deref.ensures.value in omega arith) in
    let t = c.if-not-take_marked.true in cc
