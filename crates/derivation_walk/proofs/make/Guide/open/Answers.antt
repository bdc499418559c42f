use Rattle.std.proofs.Common.{rules, ◌≡◌, ◌+◌, ◌∙◌, ap, length, arith}
use Rattle.derivation_trees.specs.Building.{Built, built}
use Rattle.derivation_walk.specs.Costs.{cost_of}
use Rattle.derivation_walk.proofs.Costs.{opened_cost}
use Rattle.derivation_walk.proofs.make.Guide.open.Goals as goal

pub returns-clause-kept : goal.returns-clause-kept
returns-clause-kept c =
    let b0 = built c.args.walk.now.nodes in
    let vs = c.args.variables.items in
    let first : c.in_ok-walk.field-0 + length vs ≡ c.args.walk.now.room = search rules in
    let second : c.in_ok-walk-2.field-0 + 1 ≡ c.in_ok-walk.field-0 = search rules in
    let e : cost_of (built c.open.new.self).nodes ≡ cost_of b0.nodes + (length vs + 1) =
    ap (λ (x : Built). cost_of x.nodes) c.in_ok-open.ensures.opened ∙ opened_cost b0 c.args.rule vs c.in_ok-credits.credits.items in
    omega (arith, first, second, e)
