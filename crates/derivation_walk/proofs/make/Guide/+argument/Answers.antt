use Rattle.std.proofs.Common.{◌≡◌, ◌<◌, ◌+◌, ◌∙◌, ap, sym, subst, drop, List, Err}
use Rattle.std.proofs.lemmas.Result.{err_from_is_err_and}
use Rattle.fip_trees.specs.Sizes.{no_sizes}
use Rattle.fip_trees.specs.TreeView.{argument, arguments}
use Rattle.fip_trees.specs.declared.program.Argument.{Argument}
use Rattle.credit_check.proofs.Steps.{drop_item}
use Rattle.credit_check.specs.Tallies.{made_from}
use Rattle.derivation_trees.specs.Building.{built}
use Rattle.derivation_walk.specs.Guides.{guided}
use Rattle.derivation_walk.specs.Walked.{value, values}
use Rattle.derivation_walk.specs.Costs.{cost_all}
use Rattle.derivation_walk.proofs.WalkSteps.{value_grown}
use Rattle.derivation_walk.proofs.Short.{too_long, closed_kept, first_short, value_short, later_short}
use Rattle.derivation_walk.proofs.make.Guide.+argument.Goals as goal

pub value-returns-clause-grows : goal.value-returns-clause-grows
value-returns-clause-grows t c =
    let a = argument c.args.argument.now in
    let hc : c.add_argument.new.sizes ≡ made_from no_sizes a = c.in_ok-add_argument.ensures.added ∙ ap (λ z. made_from z a) c.none-credits.ensures.none in
    value_grown (guided c.args.self.now) (built c.args.walk.now.nodes) (built c.open.new.walk.nodes) (built c.fields.new.walk.nodes) (built c.close.new.walk.nodes) a c.rule_of.result c.in_ok-variables.variables.items c.add_argument.new.sizes c.in_ok-variables.ensures hc c.rule_of.ensures c.in_ok-open.ensures.opened c.in_ok-fields.ensures.grows c.close.ensures.closed

pub value-returns-in_err-fields-clause-short : goal.value-returns-in_err-fields-clause-short
value-returns-in_err-fields-clause-short t c =
    let a = argument c.args.argument.now in
    let hc : c.add_argument.new.sizes ≡ made_from no_sizes a = c.in_ok-add_argument.ensures.added ∙ ap (λ z. made_from z a) c.none-credits.ensures.none in
    let p = err_from_is_err_and c.from_residual-in_err-fields.result c.from_residual-in_err-fields.ensures.1 in
    λ k.
    value_short (guided c.args.self.now) c.args.walk.now.room c.open.new.walk.room (built c.args.walk.now.nodes) (built c.open.new.walk.nodes) a c.rule_of.result c.in_ok-variables.variables.items c.add_argument.new.sizes c.in_ok-variables.ensures hc c.rule_of.ensures c.in_ok-open.ensures.opened c.in_ok-open.ensures.kept
    (c.in_err-fields.ensures.short (ap Err (too_long c.from_residual-in_err-fields.result p.0 c.in_err-fields.field-0.0 p.1 p.2 k)))

pub value-returns-clause-kept : goal.value-returns-clause-kept
value-returns-clause-kept t c =
    closed_kept 1 c.fields.new.walk.room c.close.new.walk.room (built c.fields.new.walk.nodes) (built c.close.new.walk.nodes) c.close.ensures.room c.close.ensures.closed
    ∙ c.in_ok-fields.ensures.kept ∙ c.in_ok-open.ensures.kept

pub values-returns-in_err-value-clause-short : goal.values-returns-in_err-value-clause-short
values-returns-in_err-value-clause-short t c =
    let g = guided c.args.self.now in
    let items = c.args.arguments.now in
    let i = c.loop-argument.argument-index in
    let m = c.loop-argument.walk.room in
    let a = c.argument-item.result in
    let D = drop_item items i a c.loop-argument-test.true c.argument-item.is in
    let p = err_from_is_err_and c.from_residual.result c.from_residual.ensures.1 in
    λ k.
    let l = c.in_err-value.ensures.short (ap Err (too_long c.from_residual.result p.0 c.in_err-value.field-0.0 p.1 p.2 k)) in
    later_short c.args.walk.now.room m (built c.args.walk.now.nodes) (built c.loop-argument.walk.nodes) (values g (arguments (drop i items))) (values g (arguments items)) c.loop-argument.invariant.grows c.loop-argument.invariant.kept
    (subst (λ (xs : List Argument). m < cost_all (values g (arguments xs))) (sym D) (first_short (value g (argument a)) (values g (arguments (drop (i + 1) items))) m l))
