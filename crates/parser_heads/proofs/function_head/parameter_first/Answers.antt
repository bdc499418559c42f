use Rattle.std.proofs.Common.{rules, ◌≡◌, false}
use Rattle.fip_grammar.specs.declared.token.Word.TheVariants as W
use Rattle.fip_grammar.specs.declared.Sign.TheVariants as S
use Rattle.parser_state.specs.StateView as view
use Rattle.parser_heads.proofs.DefaultRows.{parameter_default}
use Rattle.parser_state.proofs.Rows.{answers_as}
use Rattle.parser_heads.proofs.function_head.parameter_first.Goals as goal
use Rattle.parser_heads.proofs.function_head.parameter_first.Goals.{in_default-via-in-Sign+in_default, in_default-via-in_default}

pub returns-in_default : goal.returns-in_default
returns-in_default c =
    let other : c.args.token.word ≡ W.Sign S.RoundClose → ⊥ = λ e. elim c.in_default.branch [
      | in_default-via-in-Sign+in_default w ↦ search rules
      | in_default-via-in_default w ↦ search rules
    ] in
    record { next = answers_as _ false _ _ _ (parameter_default (view.function_head c.args.head) c.args.token.word c.args.token.place other) c.parameter_next.ensures.next }
