use Rattle.std.proofs.Common.{rules, ◌≡◌, ◌∙◌, false, map, sym, ap}
use Rattle.fip_grammar.specs.declared.Sign.TheVariants as S
use Rattle.fip_grammar.specs.declared.token.Word.TheVariants as W
use Rattle.fip_grammar.specs.WordView.{word}
use Rattle.fip_grammar.specs.Machine as machine
use Rattle.fip_base.specs.SurfaceView.{bind}
use Rattle.parser_state.specs.StateView as view
use Rattle.parser_bodies.proofs.body.let_equals.Goals as goal

pub returns-in-Sign-Equals : goal.returns-in-Sign-Equals
returns-in-Sign-Equals c =
    let e1 : c.args.token.word ≡ W.Sign S.Equals = search rules in
    record {
      next =
          c.stays_in_body.ensures.next false _ _
          (ap (λ v. machine.let_equals (map bind c.args.binds.items) (view.body c.args.body) (word v)) e1 ∙ ap (λ b. machine.in_body machine.AtOperand b) (sym c.start_expression.ensures.started));
    }

pub returns-in_default : goal.returns-in_default
returns-in_default c = record { next = c.refused.ensures.next false _ _ (search rules) }
