use Rattle.std.proofs.Common.{◌∙◌, sym, ap}
use Rattle.fip_grammar.specs.Machine as machine
use Rattle.fip_base.specs.SurfaceView.{top, below}
use Rattle.parser_state.specs.StateView as view
use Rattle.fip_base.proofs.SurfaceLayers.{action_binary}
use Rattle.parser_state.proofs.StepFacts as steps
use Rattle.parser_operators.proofs.operators.apply.Goals as goal

pub returns-in_ok-push-in-Some-clause-top : goal.returns-in_ok-push-in-Some-clause-top
returns-in_ok-push-in-Some-clause-top c =
    let q = c.in-Some.pending in
    let es = steps.pushed _ c.args.steps.now.items _ _ c.in_ok-push-in-Some.ensures.items (action_binary q.operator q.place) in
    let l = view.left c.args.steps.now.items in
    ap top es ∙ ap (λ z. machine.applied (view.pending z (below l)) (top l)) (sym c.in-Some.is)

pub returns-in_ok-push-in-Some-clause-below : goal.returns-in_ok-push-in-Some-clause-below
returns-in_ok-push-in-Some-clause-below c =
    let q = c.in-Some.pending in
    let es = steps.pushed _ c.args.steps.now.items _ _ c.in_ok-push-in-Some.ensures.items (action_binary q.operator q.place) in
    ap below es ∙ ap (λ z. view.after_pending z (below (view.left c.args.steps.now.items))) (sym c.in-Some.is)
