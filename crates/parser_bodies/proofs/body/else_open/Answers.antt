use Rattle.std.proofs.Common.{rules, ◌≡◌, ◌∙◌, false, sym, ap}
use Rattle.fip_grammar.specs.declared.Sign.TheVariants as S
use Rattle.fip_grammar.specs.declared.token.Word.TheVariants as W
use Rattle.fip_grammar.specs.WordView.{word}
use Rattle.fip_grammar.specs.Machine as machine
use Rattle.fip_base.specs.SurfaceView.{block}
use Rattle.parser_state.specs.StateView as view
use Rattle.parser_bodies.proofs.body.else_open.Goals as goal

pub returns-in_ok-enter-in-Sign-CurlyOpen : goal.returns-in_ok-enter-in-Sign-CurlyOpen
returns-in_ok-enter-in-Sign-CurlyOpen c =
    let b = c.args.body in
    let t = c.args.token in
    let e1 : t.word ≡ W.Sign S.CurlyOpen = search rules in
    record {
      next =
          c.stays_in_body.ensures.next false _ _
          (ap (λ v. machine.step_body (machine.ElseOpen c.args.place (view.operand b) (block c.args.yes)) (view.under_operand b) (word v) t.place) e1
          ∙ ap (λ z. machine.in_body machine.AtBlock z) (sym c.in_ok-enter-in-Sign-CurlyOpen.ensures.inner));
    }

pub returns-in_default : goal.returns-in_default
returns-in_default c = record { next = c.refused.ensures.next false _ _ (search rules) }
