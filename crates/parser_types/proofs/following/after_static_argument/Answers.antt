use Rattle.std.proofs.Common.{rules, ◌≡◌, false, map, sym, ap, ◌∙◌}
use Rattle.fip_base.specs.CoreView.{written}
use Rattle.fip_grammar.specs.declared.token.Word.TheVariants as W
use Rattle.fip_grammar.specs.declared.Sign.TheVariants as S
use Rattle.fip_grammar.specs.WordView.{word}
use Rattle.fip_grammar.specs.Machine as machine
use Rattle.parser_state.specs.StateView as view
use Rattle.parser_state.proofs.StateFacts.{map_pushed}
use Rattle.parser_types.proofs.following.after_static_argument.Goals as goal

pub returns-in-Sign-Comma : goal.returns-in-Sign-Comma
returns-in-Sign-Comma c =
    let comma : c.args.token.word ≡ W.Sign S.Comma = search rules in
    record {
      next =
          c.wants_type.ensures.next false _ _ (
          ap (λ v. machine.after_type (machine.ForStaticArgument (view.body c.args.body) c.args.name c.args.place (map written c.args.statics.items)) (written c.args.written) (word v)) comma
          ∙ ap (λ l. machine.wants_type (machine.ForStaticArgument (view.body c.args.body) c.args.name c.args.place l)) (sym (map_pushed written _ _ _ c.in_ok-push.ensures.items))
          );
    }

pub returns-in-Sign-SquareClose : goal.returns-in-Sign-SquareClose
returns-in-Sign-SquareClose c =
    let close : c.args.token.word ≡ W.Sign S.SquareClose = search rules in
    let b = view.body c.args.body in
    record {
      next =
          c.stays_in_body.ensures.next false _ _ (
          ap (λ v. machine.after_type (machine.ForStaticArgument b c.args.name c.args.place (map written c.args.statics.items)) (written c.args.written) (word v)) close
          ∙ ap (λ l. machine.in_body (machine.CallOpen c.args.name c.args.place l) b) (sym (map_pushed written _ _ _ c.in_ok-push.ensures.items))
          );
    }

pub returns-in_default : goal.returns-in_default
returns-in_default c = record { next = c.refused.ensures.next false _ _ (search rules) }
