use Rattle.std.proofs.Common.{rules, ◌≡◌, false, [], map, sym, ap, ◌∙◌}
use Rattle.fip_base.specs.CoreView.{written}
use Rattle.fip_grammar.specs.declared.token.Word.TheVariants as W
use Rattle.fip_grammar.specs.declared.Sign.TheVariants as S
use Rattle.fip_grammar.specs.WordView.{word}
use Rattle.fip_grammar.specs.Machine as machine
use Rattle.parser_state.specs.StateView as view
use Rattle.parser_state.proofs.Rows.{answers_as}
use Rattle.parser_heads.proofs.HeadFacts as facts
use Rattle.parser_heads.proofs.DefaultRows.{constructor_default}
use Rattle.parser_heads.proofs.data_type.constructor_start.Goals as goal
use Rattle.parser_heads.proofs.data_type.constructor_start.Goals.{in_default-via-in-Sign+in_default, in_default-via-in_default}

pub returns-in_ok-push-in_default : goal.returns-in_ok-push-in_default
returns-in_ok-push-in_default c =
    let other : c.args.token.word ≡ W.Sign S.RoundOpen → ⊥ = λ e. elim c.in_default.branch [
      | in_default-via-in-Sign+in_default w ↦ search rules
      | in_default-via-in_default w ↦ search rules
    ] in
    record {
      next =
          answers_as _ false _ _ _ (
          constructor_default (view.data_head c.args.data) c.args.name c.args.place c.args.token.word c.args.token.place other
          ∙ ap (λ d. machine.constructor_end d (word c.args.token.word)) (sym (facts.one_constructor c.args.data _ _ [] c.in_ok-push-in_default.ensures.items (ap (map written) c.new-in_default.ensures.items)))
          ) c.constructor_end.ensures.next;
    }
