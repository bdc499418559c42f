use Rattle.std.proofs.Common.{rules, ◌≡◌, false, length, [], ◌∷◌, ◌++◌, map, sym, ap, ◌∙◌}
use Rattle.fip_language.specs.Core as C
use Rattle.fip_base.specs.CoreView.{written}
use Rattle.fip_grammar.specs.declared.token.Word.TheVariants as W
use Rattle.fip_grammar.specs.declared.Sign.TheVariants as S
use Rattle.fip_grammar.specs.WordView.{word}
use Rattle.fip_grammar.specs.Machine as machine
use Rattle.parser_state.specs.StateView as view
use Rattle.parser_state.proofs.StateFacts.{map_pushed}
use Rattle.parser_types.proofs.TypeFacts as facts
use Rattle.parser_types.proofs.following.after_result_part.Goals as goal

pub returns-in-Sign-Comma : goal.returns-in-Sign-Comma
returns-in-Sign-Comma c =
    let comma : c.args.token.word ≡ W.Sign S.Comma = search rules in
    record {
      next =
          c.wants_type.ensures.next false _ _ (
          ap (λ v. machine.after_type (machine.ForResultPart (view.result_owner c.args.owner) c.args.place (map written c.args.parts.items)) (written c.args.written) (word v)) comma
          ∙ ap (λ l. machine.wants_type (machine.ForResultPart (view.result_owner c.args.owner) c.args.place l)) (sym (map_pushed written _ _ _ c.in_ok-push.ensures.items))
          );
    }

pub returns-else-is_first : goal.returns-else-is_first
returns-else-is_first c =
    let close : c.args.token.word ≡ W.Sign S.RoundClose = search rules in
    let some : machine.is_empty (map written c.args.parts.items) ≡ false = facts.none_empty c.args.parts.items (λ e. let none : length c.args.parts.items ≡ 0 = ap length e in search rules) in
    record {
      next =
          c.after_tuple_result.ensures.next false _ _ (
          ap (λ v. machine.after_type (machine.ForResultPart (view.result_owner c.args.owner) c.args.place (map written c.args.parts.items)) (written c.args.written) (word v)) close
          ∙ ap (λ b. machine.refused_where b (machine.after_tuple_result (view.result_owner c.args.owner) (C.TupleResult c.args.place (map written c.args.parts.items ++ written c.args.written ∷ [])))) some
          ∙ ap (λ l. machine.after_tuple_result (view.result_owner c.args.owner) (C.TupleResult c.args.place l)) (sym (map_pushed written _ _ _ c.in_ok-push.ensures.items))
          );
    }

pub returns-in_default : goal.returns-in_default
returns-in_default c = record { next = c.refused.ensures.next false _ _ (search rules) }
