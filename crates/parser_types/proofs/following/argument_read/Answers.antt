use Rattle.std.proofs.Common.{rules, ◌≡◌, ◌∷◌, sym, ap, ◌∙◌}
use Rattle.fip_base.specs.CoreView.{written}
use Rattle.fip_grammar.specs.declared.token.Word.TheVariants as W
use Rattle.fip_grammar.specs.declared.Sign.TheVariants as S
use Rattle.fip_grammar.specs.WordView.{word}
use Rattle.fip_grammar.specs.Machine as machine
use Rattle.parser_state.specs.StateView as view
use Rattle.parser_types.proofs.TypeFacts as facts
use Rattle.parser_types.proofs.following.argument_read.Goals as goal

pub returns-in_ok-push-in-Sign-Comma : goal.returns-in_ok-push-in-Sign-Comma
returns-in_ok-push-in-Sign-Comma c =
    let comma : c.args.token.word ≡ W.Sign S.Comma = search rules in
    record {
      read = λ purpose.
          ap (λ v. machine.type_done (view.open_type c.args.around ∷ view.open_types c.args.open.items) purpose (written c.args.written) (word v)) comma
          ∙ ap (λ o. machine.Stays (machine.InType machine.TypeWanted o purpose)) (sym (facts.type_more _ _ _ _ _ c.in_ok-push-in-Sign-Comma.ensures.items c.in_ok-push.ensures.items));
    }

pub returns-in-Sign-SquareClose : goal.returns-in-Sign-SquareClose
returns-in-Sign-SquareClose c =
    let close : c.args.token.word ≡ W.Sign S.SquareClose = search rules in
    record {
      read = λ purpose.
          ap (λ v. machine.type_done (view.open_type c.args.around ∷ view.open_types c.args.open.items) purpose (written c.args.written) (word v)) close
          ∙ ap (λ t. machine.Stays (machine.InType (machine.TypeDone t) (view.open_types c.args.open.items) purpose)) (sym (facts.type_ended c.args.around.name c.args.around.place _ _ _ c.in_ok-push.ensures.items));
    }
