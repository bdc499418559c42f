use Rattle.std.proofs.Common.{rules, ◌≡◌, ◌<◌, ◌+◌, ap, sym, subst, drop, List, ◌∷◌, false, ◌||◌, Err}
use Rattle.std.proofs.lemmas.Result.{err_from_is_err_and}
use Rattle.fip_base.specs.declared.plain.Param.{Param}
use Rattle.fip_trees.specs.TreeView.{argument, arguments}
use Rattle.fip_trees.specs.declared.program.Argument.{Argument}
use Rattle.credit_check.proofs.Steps.{drop_item}
use Rattle.derivation_trees.specs.Building.{built}
use Rattle.derivation_walk.specs.Guides.{guided}
use Rattle.derivation_walk.specs.Walked.{passed}
use Rattle.derivation_walk.specs.Costs.{cost_all}
use Rattle.derivation_walk.proofs.WalkSteps.{passed_done, no_arguments}
use Rattle.derivation_walk.proofs.Short.{too_long, later_short, passed_short}
use Rattle.derivation_walk.proofs.make.Guide.passed.Goals as goal

pub returns-clause-grows : goal.returns-clause-grows
returns-clause-grows c = passed_done (guided c.args.self.now) (built c.loop-argument.walk.nodes) _ (drop c.loop-argument.place c.args.params.now) (arguments (drop c.loop-argument.argument-index c.args.arguments.now)) (no_arguments c.args.arguments.now c.loop-argument.argument-index c.loop-argument-test.false) c.loop-argument.invariant.grows

pub returns-in_err-value-in-Some-clause-short : goal.returns-in_err-value-in-Some-clause-short
returns-in_err-value-in-Some-clause-short c =
    let g = guided c.args.self.now in
    let items = c.args.arguments.now in
    let i = c.loop-argument.argument-index in
    let j = c.loop-argument.place in
    let m = c.loop-argument.walk.room in
    let a = c.argument-item.result in
    let q = c.in-Some.param.now in
    let D = drop_item items i a c.loop-argument-test.true c.argument-item.is in
    let Q : drop j c.args.params.now ≡ q ∷ drop (j + 1) c.args.params.now = drop_item c.args.params.now j q c.in-Some.ensures.lookup.3.0 c.in-Some.ensures.lookup.1 in
    let f : g.world.scalar q.ty || q.lent ≡ false = search rules in
    let p = err_from_is_err_and c.from_residual.result c.from_residual.ensures.1 in
    λ k.
    let l = c.in_err-value-in-Some.ensures.short (ap Err (too_long c.from_residual.result p.0 c.in_err-value-in-Some.field-0.0 p.1 p.2 k)) in
    later_short c.args.walk.now.room m (built c.args.walk.now.nodes) (built c.loop-argument.walk.nodes) (passed g (drop j c.args.params.now) (arguments (drop i items))) (passed g c.args.params.now (arguments items)) c.loop-argument.invariant.grows c.loop-argument.invariant.kept
    (subst (λ (ps : List Param). m < cost_all (passed g ps (arguments (drop i items)))) (sym Q)
    (subst (λ (xs : List Argument). m < cost_all (passed g (q ∷ drop (j + 1) c.args.params.now) (arguments xs))) (sym D)
    (passed_short g q (drop (j + 1) c.args.params.now) (argument a) (arguments (drop (i + 1) items)) m f l)))
