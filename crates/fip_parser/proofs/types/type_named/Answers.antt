use Rattle.std.proofs.Common.{rules, ◌≡◌, false, sym, ap, ◌∙◌}
use Rattle.fip_grammar.specs.declared.token.Word.TheVariants as W
use Rattle.fip_grammar.specs.declared.Sign.TheVariants as S
use Rattle.fip_grammar.specs.WordView.{word}
use Rattle.fip_grammar.specs.Machine as machine
use Rattle.parser_state.specs.StateView as view
use Rattle.parser_types.proofs.TypeFacts as facts
use Rattle.fip_parser.proofs.types.type_named.Goals as goal

pub returns-in_ok-push-in-Sign-SquareOpen : goal.returns-in_ok-push-in-Sign-SquareOpen
returns-in_ok-push-in-Sign-SquareOpen c =
    let bracket : c.args.token.word ≡ W.Sign S.SquareOpen = search rules in
    record {
      next =
          c.stays_in_type.ensures.next false _ _ (
          ap (λ v. machine.step_type (machine.TypeNamed c.args.name c.args.place) (view.open_types c.args.open.items) (view.type_use c.args.purpose) (word v) c.args.token.place) bracket
          ∙ ap (λ o. machine.Stays (machine.InType machine.TypeWanted o (view.type_use c.args.purpose))) (sym (facts.new_type _ _ _ c.in_ok-push-in-Sign-SquareOpen.ensures.items c.new.ensures.items))
          );
    }
