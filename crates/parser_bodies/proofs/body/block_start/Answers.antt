use Rattle.std.proofs.Common.{rules, ◌≡◌, ◌∙◌, false, sym, ap}
use Rattle.fip_grammar.specs.declared.Sign.TheVariants as S
use Rattle.fip_grammar.specs.declared.token.Word.TheVariants as W
use Rattle.fip_grammar.specs.WordView.{word}
use Rattle.fip_grammar.specs.Machine as machine
use Rattle.parser_state.specs.StateView as view
use Rattle.parser_state.proofs.Rows.{answers_as}
use Rattle.parser_bodies.proofs.BodyRows.{block_default}
use Rattle.parser_bodies.proofs.body.block_start.Goals as goal
use Rattle.parser_bodies.proofs.body.block_start.Goals.{in_default-via-in-Sign+in_default, in_default-via-in_default}

pub returns-in_default : goal.returns-in_default
returns-in_default c =
    let b = c.args.body in
    let t = c.args.token in
    let other : c.args.token.word ≡ W.Sign S.Let → ⊥ = λ e. elim c.in_default.branch [
      | in_default-via-in-Sign+in_default w ↦ search rules
      | in_default-via-in_default w ↦ search rules
    ] in
    let e1 = block_default (view.body b) t.word t.place other in
    record {
      next = answers_as _ false _ _ _ (e1 ∙ ap (λ z. machine.operand_start z (word t.word) t.place) (sym c.start_expression.ensures.started)) c.operand_start.ensures.next;
    }
