use Rattle.std.proofs.Common.{rules, ◌≡◌, ◌∙◌, false, ◌∷◌, sym, ap, subst}
use Rattle.fip_grammar.specs.WordView.{word}
use Rattle.fip_grammar.specs.Machine as machine
use Rattle.fip_base.specs.SurfaceView.{top, below}
use Rattle.parser_state.specs.StateView as view
use Rattle.fip_base.proofs.SurfaceLayers.{action_variable}
use Rattle.parser_state.proofs.StepFacts as steps
use Rattle.fip_language.specs.Surface as Surface
use Rattle.fip_base.specs.SurfaceView as surface
use Rattle.fip_base.specs.declared.surface.Step.TheVariants as V
use Rattle.parser_state.proofs.Rows.{answers_as}
use Rattle.parser_operators.proofs.names.lower_name.Goals as goal

pub after_operand-requires : goal.after_operand-requires
after_operand-requires c = record {
  well = (
    c.requires.well.0,
    subst (λ z. view.IsWellPartial c.args.body.partial (below z)) (sym (steps.pushed _ _ _ _ c.in_ok-push-in_default.ensures.items (action_variable c.args.name c.args.place))) c.requires.well.1,
  );
}

pub returns-in_ok-push-in_default : goal.returns-in_ok-push-in_default
returns-in_ok-push-in_default c =
    let b = c.args.body in
    let t = c.args.token in
    let v = Surface.Variable c.args.name c.args.place in
    let es : view.left c.push.new.self.items ≡ v ∷ view.operands b =
    steps.pushed c.push.new.self.items b.partial.steps.items (V.Variable c.args.name c.args.place) (surface.Leaves v) c.in_ok-push-in_default.ensures.items (action_variable c.args.name c.args.place) in
    let e1 : machine.step_body (machine.LowerName c.args.name c.args.place) (view.body b) (word t.word) t.place ≡ machine.after_operand (view.body b) v (word t.word) t.place = search rules in
    record {
      next =
          answers_as _ false _ _ _
          (e1 ∙ ap (λ z. machine.after_operand (view.body_with b (below z)) (top z) (word t.word) t.place) (sym es)) c.after_operand.ensures.next;
    }
