use Rattle.std.proofs.Common.{rules, ◌≡◌, ◌-◌, length, ap}
use Rattle.derivation_trees.specs.Trees.{head}
use Rattle.derivation_trees.specs.Building.{with_span}
use Rattle.derivation_trees.proofs.Altering.{alter_past, alter_set}
use Rattle.derivation_trees.proofs.parts.set_span.Goals as goal

pub returns-in-Some-clause-set : goal.returns-in-Some-clause-set
returns-in-Some-clause-set c =
    let n = c.in-Some.node.now in
    let e : c.saturating_sub-node.result ≡ length c.args.nodes.now.items - c.args.place = search rules in
    alter_set (with_span (length c.args.nodes.now.items - c.args.place)) c.args.nodes.now.items c.args.place n _ (c.in-Some.ensures.item.3.0) c.in-Some.ensures.value
    (ap (λ k. record (head n) { span = k }) e)

pub returns-in_default-clause-set : goal.returns-in_default-clause-set
returns-in_default-clause-set c = alter_past (with_span (length c.args.nodes.now.items - c.args.place)) c.args.nodes.now.items c.args.place c.in_default.ensures.item.3
