use Rattle.std.proofs.Common.{rules, ◌≡◌, ◌∙◌, false, [], ◌∷◌, ◌++◌, map, sym, ap}
use Rattle.fip_grammar.specs.declared.Sign.TheVariants as S
use Rattle.fip_grammar.specs.declared.token.Word.TheVariants as W
use Rattle.fip_grammar.specs.WordView.{word}
use Rattle.fip_grammar.specs.Machine as machine
use Rattle.fip_base.specs.SurfaceView.{bind}
use Rattle.parser_state.specs.StateView as view
use Rattle.parser_state.proofs.StateFacts as facts
use Rattle.std.proofs.lemmas.List.{map_push}
use Rattle.parser_bodies.proofs.body.end_bracketed_bind.Goals as goal

pub returns-in-Sign-Comma : goal.returns-in-Sign-Comma
returns-in-Sign-Comma c =
    let e1 : c.args.token.word ≡ W.Sign S.Comma = search rules in
    let m = map_push bind c.args.done.items c.args.bind in
    record {
      next =
          c.stays_in_body.ensures.next false _ _
          (ap (λ v. machine.end_bind (view.body c.args.body) (machine.Bracketed (map bind c.args.done.items)) (bind c.args.bind) (word v)) e1
          ∙ ap (λ z. machine.in_body (machine.BindStart z) (view.body c.args.body)) (sym m ∙ ap (map bind) (sym c.in_ok-push.ensures.items)));
    }

pub returns-else-is_first : goal.returns-else-is_first
returns-else-is_first c =
    let e1 : c.args.token.word ≡ W.Sign S.RoundClose = search rules in
    let m = map_push bind c.args.done.items c.args.bind in
    let f : machine.is_empty (map bind c.args.done.items) ≡ false =
    facts.some_mapped bind c.args.done.items c.args.done.len c.is_empty-is_first.result c.if-is_first.false c.is_empty-is_first.ensures c.args.done.ok.0 in
    record {
      next =
          c.stays_in_body-in-Sign-RoundClose.ensures.next false _ _
          (ap (λ v. machine.end_bind (view.body c.args.body) (machine.Bracketed (map bind c.args.done.items)) (bind c.args.bind) (word v)) e1
          ∙ ap (λ z. machine.refused_where z (machine.in_body (machine.LetEquals (map bind c.args.done.items ++ bind c.args.bind ∷ [])) (view.body c.args.body))) f
          ∙ ap (λ z. machine.in_body (machine.LetEquals z) (view.body c.args.body)) (sym m ∙ ap (map bind) (sym c.in_ok-push.ensures.items)));
    }

pub returns-in_default : goal.returns-in_default
returns-in_default c = record { next = c.refused.ensures.next false _ _ (search rules) }
