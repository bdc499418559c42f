use Rattle.std.proofs.Common.{rules, ◌≡◌, ◌∙◌, false, sym, ap}
use Rattle.fip_grammar.specs.declared.Sign.TheVariants as S
use Rattle.fip_grammar.specs.declared.token.Word.TheVariants as W
use Rattle.fip_grammar.specs.WordView.{word}
use Rattle.fip_grammar.specs.Machine as machine
use Rattle.parser_state.specs.StateView as view
use Rattle.parser_state.proofs.Rows.{answers_as}
use Rattle.parser_bodies.proofs.BodyRows.{parenthesis_default}
use Rattle.parser_bodies.proofs.body.parenthesis.Goals as goal
use Rattle.parser_bodies.proofs.body.parenthesis.Goals.{in_default-via-in-Sign+in_default, in_default-via-in_default}

pub returns-in_ok-enter-in-Sign-Let : goal.returns-in_ok-enter-in-Sign-Let
returns-in_ok-enter-in-Sign-Let c =
    let b = c.args.body in
    let t = c.args.token in
    let e1 : t.word ≡ W.Sign S.Let = search rules in
    record {
      next =
          c.stays_in_body.ensures.next false _ _
          (ap (λ v. machine.step_body (machine.Parenthesis c.args.place) (view.body b) (word v) t.place) e1 ∙ ap (λ z. machine.in_body machine.LetStart z) (sym c.in_ok-enter-in-Sign-Let.ensures.inner));
    }

pub returns-in_ok-enter-in_default : goal.returns-in_ok-enter-in_default
returns-in_ok-enter-in_default c =
    let b = c.args.body in
    let t = c.args.token in
    let other : c.args.token.word ≡ W.Sign S.Let → ⊥ = λ e. elim c.in_default.branch [
      | in_default-via-in-Sign+in_default w ↦ search rules
      | in_default-via-in_default w ↦ search rules
    ] in
    let e1 = parenthesis_default c.args.place (view.body b) t.word t.place other in
    record {
      next = answers_as _ false _ _ _ (e1 ∙ ap (λ z. machine.operand_start z (word t.word) t.place) (sym c.in_ok-enter-in_default.ensures.inner)) c.operand_start.ensures.next;
    }
