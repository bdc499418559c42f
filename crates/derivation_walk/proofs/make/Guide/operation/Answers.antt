use Rattle.std.proofs.Common.{◌∙◌, ap, refl, Err}
use Rattle.std.proofs.lemmas.Result.{err_from_is_err_and}
use Rattle.derivation_trees.specs.declared.derivation.RuleName.TheVariants as R
use Rattle.derivation_trees.specs.Building.{built}
use Rattle.derivation_trees.specs.Trees.{NoTrees}
use Rattle.derivation_walk.specs.Guides.{guided, holding}
use Rattle.derivation_walk.specs.Walked.{begun}
use Rattle.derivation_walk.proofs.Growing.{awaited}
use Rattle.derivation_walk.proofs.Short.{too_long, closed_kept}
use Rattle.derivation_walk.proofs.make.Guide.operation.Goals as goal

pub returns-clause-grows : goal.returns-clause-grows
returns-clause-grows c = awaited c.in_ok-opened.opened (built c.args.walk.now.nodes) (built c.begin.new.walk.nodes) (built c.begin.new.walk.nodes) (built c.close.new.walk.nodes) (begun (guided c.args.self.now) c.args.walk.now.next R.Scalar (holding c.args.owned)) NoTrees c.in_ok-opened.ensures.awaits refl c.close.ensures.closed

pub returns-in_err-opened-clause-short : goal.returns-in_err-opened-clause-short
returns-in_err-opened-clause-short c =
    let g = guided c.args.self.now in
    let p = err_from_is_err_and c.from_residual.result c.from_residual.ensures.1 in
    λ k. c.in_err-opened.ensures.short (ap Err (too_long c.from_residual.result p.0 c.in_err-opened.field-0.0 p.1 p.2 k)) NoTrees

pub returns-clause-kept : goal.returns-clause-kept
returns-clause-kept c =
    closed_kept c.in_ok-opened.opened c.begin.new.walk.room c.close.new.walk.room (built c.begin.new.walk.nodes) (built c.close.new.walk.nodes) c.close.ensures.room c.close.ensures.closed
    ∙ c.in_ok-opened.ensures.kept
