use Rattle.std.proofs.Common.{rules, ◌≡◌, ◌∙◌, false, sym, ap}
use Rattle.fip_grammar.specs.declared.token.Word.TheVariants as W
use Rattle.fip_grammar.specs.declared.Sign.TheVariants as S
use Rattle.fip_grammar.specs.WordView.{word}
use Rattle.fip_grammar.specs.Machine as machine
use Rattle.parser_state.specs.StateView as view
use Rattle.parser_state.proofs.Rows.{answers_as}
use Rattle.parser_heads.proofs.DefaultRows.{result_default}
use Rattle.parser_heads.proofs.function_head.result_start.Goals as goal
use Rattle.parser_heads.proofs.function_head.result_start.Goals.{in_default-via-in-Sign+in_default, in_default-via-in_default}

pub returns-in_default : goal.returns-in_default
returns-in_default c =
    let o = view.result_owner c.args.owner in
    let t = c.args.token in
    let other : c.args.token.word ≡ W.Sign S.RoundOpen → ⊥ = λ e. elim c.in_default.branch [
      | in_default-via-in-Sign+in_default w ↦ search rules
      | in_default-via-in_default w ↦ search rules
    ] in
    record {
      next =
          answers_as _ false _ _ _
          (result_default o t.word t.place other ∙ ap (λ z. machine.type_wanted z (machine.ForResult o) (word t.word) t.place) (sym (ap view.open_types c.new-in_default.ensures.items)))
          c.type_wanted.ensures.next;
    }
