use Rattle.std.proofs.Common.{◌∙◌, ap, Err}
use Rattle.std.proofs.lemmas.Result.{err_from_is_err_and}
use Rattle.std.specs.Prelude.{slice_get}
use Rattle.fip_trees.specs.TreeView.{arguments}
use Rattle.derivation_trees.specs.declared.derivation.RuleName.TheVariants as R
use Rattle.derivation_trees.specs.Building.{built}
use Rattle.derivation_walk.specs.Guides.{guided, holding}
use Rattle.derivation_walk.specs.Walked.{begun, passed, params_of}
use Rattle.derivation_walk.proofs.Growing.{awaited}
use Rattle.derivation_walk.proofs.Short.{too_long, closed_kept, parts_short}
use Rattle.derivation_walk.proofs.make.Guide.call.Goals as goal

pub returns-in_err-opened-clause-short : goal.returns-in_err-opened-clause-short
returns-in_err-opened-clause-short c =
    let g = guided c.args.self.now in
    let p = err_from_is_err_and c.from_residual.result c.from_residual.ensures.1 in
    λ k. c.in_err-opened.ensures.short (ap Err (too_long c.from_residual.result p.0 c.in_err-opened.field-0.0 p.1 p.2 k)) (passed g (params_of (slice_get g.world.instances c.args.callee)) (arguments c.args.arguments.now))

pub returns-clause-kept : goal.returns-clause-kept
returns-clause-kept c =
    closed_kept c.in_ok-opened.opened c.passed_to.new.walk.room c.close.new.walk.room (built c.passed_to.new.walk.nodes) (built c.close.new.walk.nodes) c.close.ensures.room c.close.ensures.closed
    ∙ c.in_ok-passed_to.ensures.kept ∙ c.in_ok-opened.ensures.kept

pub returns-in_err-passed_to-clause-short : goal.returns-in_err-passed_to-clause-short
returns-in_err-passed_to-clause-short c =
    let g = guided c.args.self.now in
    let p = err_from_is_err_and c.from_residual-in_err-passed_to.result c.from_residual-in_err-passed_to.ensures.1 in
    λ k. parts_short c.args.walk.now.room c.begin.new.walk.room c.in_ok-opened.opened (built c.args.walk.now.nodes) (built c.begin.new.walk.nodes) (begun g c.args.walk.now.next R.Call (holding c.args.owned)) (passed g (params_of (slice_get g.world.instances c.args.callee)) (arguments c.args.arguments.now)) c.in_ok-opened.ensures.awaits c.in_ok-opened.ensures.kept
    (c.in_err-passed_to.ensures.short (ap Err (too_long c.from_residual-in_err-passed_to.result p.0 c.in_err-passed_to.field-0.0 p.1 p.2 k)))

pub returns-clause-grows : goal.returns-clause-grows
returns-clause-grows c =
    let g = guided c.args.self.now in
    awaited c.in_ok-opened.opened (built c.args.walk.now.nodes) (built c.begin.new.walk.nodes) (built c.passed_to.new.walk.nodes) (built c.close.new.walk.nodes) (begun g c.args.walk.now.next R.Call (holding c.args.owned)) (passed g (params_of (slice_get g.world.instances c.args.callee)) (arguments c.args.arguments.now)) c.in_ok-opened.ensures.awaits c.in_ok-passed_to.ensures.grows c.close.ensures.closed
