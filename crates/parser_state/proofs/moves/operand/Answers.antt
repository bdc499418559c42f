use Rattle.std.proofs.Common.{◌≡◌, ◌∙◌, ◌∷◌, sym, ap, subst}
use Rattle.fip_grammar.specs.Machine as machine
use Rattle.fip_base.specs.SurfaceView.{action, acted, kept, top, below}
use Rattle.parser_state.specs.StateView as view
use Rattle.parser_state.proofs.StateFacts as facts
use Rattle.parser_state.proofs.moves.operand.Goals as goal

pub stays_in_body-requires : goal.stays_in_body-requires
stays_in_body-requires c = record {
  well = (
    c.requires.well.0,
    subst (λ z. view.IsWellPartial c.args.body.partial (below z)) (sym (ap view.left c.in_ok-push.ensures.items ∙ facts.left_push c.args.body.partial.steps.items c.args.step)) c.requires.well.1,
  );
}

pub returns : goal.returns
returns c =
    let es : view.left c.push.new.self.items ≡ acted (action c.args.step) (view.operands c.args.body) ∷ kept (action c.args.step) (view.operands c.args.body) =
    ap view.left c.in_ok-push.ensures.items ∙ facts.left_push c.args.body.partial.steps.items c.args.step in
    record {
      next =
          λ negated w x e. c.stays_in_body.ensures.next negated w x
          (e ∙ ap (λ z. machine.in_body (machine.AtOperator (top z)) (view.body_with c.args.body (below z))) (sym es));
    }
