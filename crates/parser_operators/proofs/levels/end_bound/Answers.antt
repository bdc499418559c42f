use Rattle.std.proofs.Common.{◌≡◌, ◌∙◌, [], map, None, sym, ap, subst, rules}
use Rattle.fip_grammar.specs.Machine as machine
use Rattle.fip_grammar.specs.declared.Sign.TheVariants as S
use Rattle.fip_base.specs.SurfaceView.{bind, top, below}
use Rattle.parser_state.specs.StateView as view
use Rattle.parser_state.proofs.StepFacts as steps
use Rattle.parser_operators.proofs.levels.end_bound.Goals as goal

pub returns-in_ok-push-in-Semicolon : goal.returns-in_ok-push-in-Semicolon
returns-in_ok-push-in-Semicolon c =
    let b = c.args.body in
    let bs = c.args.binds in
    let s = c.replace-steps.result in
    let k : s ≡ b.partial.steps = c.replace-steps.ensures.value in
    let one = subst (λ z. below (view.left z.items) ≡ []) (sym k) c.requires.whole in
    let started = view.body b in
    record {
      next =
          λ negated w x e. c.stays_in_body.ensures.next negated w x
          (e
          ∙ ap (λ z. machine.end_bound started (map bind bs.items) (view.operand b) z) c.in-Semicolon.is
          ∙ ap (λ z. machine.end_bound started (map bind bs.items) (top (view.left z.items)) S.Semicolon) (sym k)
          ∙ ap (λ z. machine.in_body machine.AtBlock (record started { partial = record { lets = z; binds = None; openers = []; waiting = machine.none_waits } }))
          (sym (steps.let_pushed c.push.new.self.items b.partial.lets.items bs s c.in_ok-push-in-Semicolon.ensures.items one))
          ∙ ap (λ z. machine.in_body machine.AtBlock z) (sym c.start_expression.ensures.started));
    }

pub returns-in_default : goal.returns-in_default
returns-in_default c = record { next = λ negated w x e. c.refused.ensures.next negated w x (e ∙ search rules) }
