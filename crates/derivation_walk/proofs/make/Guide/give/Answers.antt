use Rattle.std.proofs.Common.{◌<◌, ◌∙◌, ap, subst, Err}
use Rattle.std.proofs.lemmas.Result.{err_from_is_err_and}
use Rattle.fip_trees.specs.TreeView.{argument}
use Rattle.derivation_trees.specs.Building.{built}
use Rattle.derivation_walk.specs.Guides.{guided, holding}
use Rattle.derivation_walk.specs.Walked.{begun, fields}
use Rattle.derivation_walk.specs.Costs.{cost}
use Rattle.derivation_walk.proofs.WalkSteps.{given_grown}
use Rattle.derivation_walk.proofs.Short.{too_long, closed_kept, parts_short}
use Rattle.derivation_walk.proofs.make.Guide.give.Goals as goal

pub returns-clause-grows : goal.returns-clause-grows
returns-clause-grows c = given_grown (guided c.args.self.now) c.in_ok-opened.opened c.args.walk.now.next (built c.args.walk.now.nodes) (built c.begin.new.walk.nodes) (built c.fields.new.walk.nodes) (built c.close.new.walk.nodes) c.rule_of.result (holding c.args.owned) (argument c.args.argument.now) c.rule_of.ensures c.in_ok-opened.ensures.awaits c.in_ok-fields.ensures.grows c.close.ensures.closed

pub returns-in_err-opened-clause-short : goal.returns-in_err-opened-clause-short
returns-in_err-opened-clause-short c =
    let g = guided c.args.self.now in
    let p = err_from_is_err_and c.from_residual.result c.from_residual.ensures.1 in
    λ k. subst (λ z. c.args.walk.now.room < cost (begun g c.args.walk.now.next z (holding c.args.owned) (fields g (argument c.args.argument.now)))) c.rule_of.ensures (c.in_err-opened.ensures.short (ap Err (too_long c.from_residual.result p.0 c.in_err-opened.field-0.0 p.1 p.2 k)) (fields g (argument c.args.argument.now)))

pub returns-clause-kept : goal.returns-clause-kept
returns-clause-kept c =
    closed_kept c.in_ok-opened.opened c.fields.new.walk.room c.close.new.walk.room (built c.fields.new.walk.nodes) (built c.close.new.walk.nodes) c.close.ensures.room c.close.ensures.closed
    ∙ c.in_ok-fields.ensures.kept ∙ c.in_ok-opened.ensures.kept

pub returns-in_err-fields-clause-short : goal.returns-in_err-fields-clause-short
returns-in_err-fields-clause-short c =
    let g = guided c.args.self.now in
    let p = err_from_is_err_and c.from_residual-in_err-fields.result c.from_residual-in_err-fields.ensures.1 in
    λ k. subst (λ z. c.args.walk.now.room < cost (begun g c.args.walk.now.next z (holding c.args.owned) (fields g (argument c.args.argument.now)))) c.rule_of.ensures (
    parts_short c.args.walk.now.room c.begin.new.walk.room c.in_ok-opened.opened (built c.args.walk.now.nodes) (built c.begin.new.walk.nodes) (begun g c.args.walk.now.next c.rule_of.result (holding c.args.owned)) (fields g (argument c.args.argument.now)) c.in_ok-opened.ensures.awaits c.in_ok-opened.ensures.kept
    (c.in_err-fields.ensures.short (ap Err (too_long c.from_residual-in_err-fields.result p.0 c.in_err-fields.field-0.0 p.1 p.2 k))))
