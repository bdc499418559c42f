use Rattle.std.proofs.Common.{◌∙◌, sym}
use Rattle.fip_rules.specs.World.{is_fip}
use Rattle.derivation_check.proofs.Weakened.{below_refused}
use Rattle.derivation_check.proofs.walk.below.Goals as goal

pub returns-then-not-leaves-clause-only : goal.returns-then-not-leaves-clause-only
returns-then-not-leaves-clause-only c u v g =
    below_refused (is_fip c.args.kind) c.args.next c.args.nodes.now c.args.place c.loop-node.place c.in-Some.node.now c.loop-node.invariant c.in-Some.ensures.some (sym c.is_weaken.ensures.weakens ∙ c.if-not-is_weaken.false)
    (λ f e o h. let x = c.leaves.ensures.complete e o h in let y = c.if-not-leaves.true in cc) u v g
