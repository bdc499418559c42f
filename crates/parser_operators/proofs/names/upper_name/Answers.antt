use Rattle.std.proofs.Common.{rules, ◌≡◌, ◌∙◌, false, ◌∷◌, map, sym, ap, subst}
use Rattle.fip_grammar.specs.declared.Sign.TheVariants as S
use Rattle.fip_grammar.specs.declared.token.Word.TheVariants as W
use Rattle.fip_grammar.specs.WordView.{word}
use Rattle.fip_grammar.specs.Machine as machine
use Rattle.fip_base.specs.SurfaceView.{expression, top, below}
use Rattle.parser_state.specs.StateView as view
use Rattle.fip_base.proofs.SurfaceLayers.{action_constructor}
use Rattle.parser_state.proofs.StepFacts as steps
use Rattle.fip_language.specs.Surface as Surface
use Rattle.fip_base.specs.SurfaceView as surface
use Rattle.fip_base.specs.declared.surface.Step.TheVariants as V
use Rattle.parser_state.proofs.Rows.{answers_as}
use Rattle.parser_operators.proofs.names.upper_name.Goals as goal

pub after_operand-requires : goal.after_operand-requires
after_operand-requires c = record {
  well = (
    c.requires.well.0,
    subst (λ z. view.IsWellPartial c.args.body.partial (below z)) (sym (steps.pushed _ _ _ _ c.in_ok-push-in_default.ensures.items (action_constructor c.args.name c.args.place _))) c.requires.well.1,
  );
}

pub returns-in_ok-inner-in-Sign-RoundOpen : goal.returns-in_ok-inner-in-Sign-RoundOpen
returns-in_ok-inner-in-Sign-RoundOpen c =
    let b = c.args.body in
    let t = c.args.token in
    let n = c.args.name in
    let e1 : t.word ≡ W.Sign S.RoundOpen = search rules in
    record {
      next =
          c.stays_in_body.ensures.next false _ _
          (ap (λ v. machine.step_body (machine.UpperName n c.args.place) (view.body b) (word v) t.place) e1
          ∙ ap (λ z. machine.in_body machine.AtOperand (machine.enter (view.body b) (machine.ForFields n c.args.place z))) (sym (ap (map expression) c.new.ensures.items))
          ∙ ap (λ z. machine.in_body machine.AtOperand z) (sym c.in_ok-inner-in-Sign-RoundOpen.ensures.inner));
    }

pub returns-in_ok-push-in_default : goal.returns-in_ok-push-in_default
returns-in_ok-push-in_default c =
    let b = c.args.body in
    let t = c.args.token in
    let v = Surface.Constructor c.args.name c.args.place Surface.NoExpressions in
    let a = action_constructor c.args.name c.args.place c.new-in_default.result ∙ ap (λ z. surface.Leaves (Surface.Constructor c.args.name c.args.place (surface.expressions z))) c.new-in_default.ensures.items in
    let es : view.left c.push.new.self.items ≡ v ∷ view.operands b =
    steps.pushed c.push.new.self.items b.partial.steps.items (V.Constructor c.args.name c.args.place c.new-in_default.result) (surface.Leaves v) c.in_ok-push-in_default.ensures.items a in
    let e1 : machine.step_body (machine.UpperName c.args.name c.args.place) (view.body b) (word t.word) t.place ≡ machine.after_operand (view.body b) v (word t.word) t.place = search rules in
    record {
      next =
          answers_as _ false _ _ _
          (e1 ∙ ap (λ z. machine.after_operand (view.body_with b (below z)) (top z) (word t.word) t.place) (sym es)) c.after_operand.ensures.next;
    }
