use Rattle.std.proofs.Common.{rules, ◌≡◌, false, sym, ap, ◌∙◌}
use Rattle.fip_grammar.specs.declared.token.Word.TheVariants as W
use Rattle.fip_grammar.specs.declared.Sign.TheVariants as S
use Rattle.fip_grammar.specs.WordView.{word}
use Rattle.fip_grammar.specs.Machine as machine
use Rattle.parser_state.specs.StateView as view
use Rattle.parser_state.proofs.Rows.{answers_as}
use Rattle.parser_heads.proofs.HeadFacts as facts
use Rattle.parser_heads.proofs.DefaultRows.{static_default}
use Rattle.parser_heads.proofs.function_head.static_start.Goals as goal
use Rattle.parser_heads.proofs.function_head.static_start.Goals.{in_default-via-in-Sign+in_default, in_default-via-in_default}

pub returns-in_ok-push-in_default : goal.returns-in_ok-push-in_default
returns-in_ok-push-in_default c =
    let other : c.args.token.word ≡ W.Sign S.Colon → ⊥ = λ e. elim c.in_default.branch [
      | in_default-via-in-Sign+in_default w ↦ search rules
      | in_default-via-in_default w ↦ search rules
    ] in
    record {
      next =
          answers_as _ false _ _ _ (
          static_default (view.function_head c.args.head) c.args.name c.args.place c.args.token.word c.args.token.place other
          ∙ ap (λ h. machine.static_end h (word c.args.token.word)) (sym (facts.one_static c.args.head _ _ c.in_ok-push-in_default.ensures.items))
          ) c.static_end.ensures.next;
    }
