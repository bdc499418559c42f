use Rattle.std.proofs.Common.{◌∙◌, ap}
use Rattle.fip_language.specs.Core as C
use Rattle.fip_base.specs.CoreView as V
use Rattle.fip_trees.specs.Tree as T
use Rattle.fip_trees.specs.TreeView as W
use Rattle.static_params.specs.FlatView.{call_in, making}
use Rattle.static_params.proofs.FlatViews.{view_call}
use Rattle.static_params.proofs.flatten.Flattening.call.Goals as goal

pub returns-clause-stays : goal.returns-clause-stays
returns-clause-stays c = λ m. c.in_ok-callee.ensures.stays m

pub returns-clause-flat : goal.returns-clause-flat
returns-clause-flat c = λ m.
    let w = making c.args.self.now in
    let g = call_in w c.args.name.now c.args.place (V.writtens c.args.statics.now) in
    view_call c.in_ok-callee.callee c.in_ok-copy.copy c.args.place c.in_ok-arguments.arguments
    ∙ ap (λ n. T.Call n c.in_ok-copy.copy c.args.place (W.arguments c.in_ok-arguments.arguments.items)) (c.in_ok-callee.ensures.flat m)
    ∙ ap (λ (x : C.Name). T.Call g x c.args.place (W.arguments c.in_ok-arguments.arguments.items)) c.in_ok-copy.ensures
    ∙ ap (T.Call g c.args.name.now c.args.place) c.in_ok-arguments.ensures
