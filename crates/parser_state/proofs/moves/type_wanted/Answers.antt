use Rattle.std.proofs.Common.{◌≡◌, false, Option, subst}
use Rattle.std.specs.Prelude.{MatchOption}
use Rattle.fip_grammar.specs.WordView.{word}
use Rattle.fip_grammar.specs.Machine as machine
use Rattle.parser_state.specs.declared.state.TypePosition.{TypePosition}
use Rattle.parser_state.specs.StateView as view
use Rattle.parser_state.proofs.moves.type_wanted.Goals as goal

pub returns-in-Ok-Some : goal.returns-in-Ok-Some
returns-in-Ok-Some c =
    let around = view.open_types c.args.open.items in
    let purpose = view.type_use c.args.purpose in
    let read = machine.type_wanted around purpose (word c.args.token.word) c.args.token.place in
    record {
      next =
          c.stays_in_type.ensures.next false _ _
          (subst (λ (o : Option TypePosition). MatchOption o (read ≡ machine.Refused) (λ q. read ≡ machine.Stays (machine.InType (view.type_position q) around purpose))) c.in-Ok-Some.field-0-is (c.in-Ok-Some.ensures.begun around purpose));
    }

pub returns-in-Ok-None : goal.returns-in-Ok-None
returns-in-Ok-None c =
    let around = view.open_types c.args.open.items in
    let purpose = view.type_use c.args.purpose in
    let read = machine.type_wanted around purpose (word c.args.token.word) c.args.token.place in
    record {
      next =
          c.refused.ensures.next false _ _
          (subst (λ (o : Option TypePosition). MatchOption o (read ≡ machine.Refused) (λ q. read ≡ machine.Stays (machine.InType (view.type_position q) around purpose))) c.in-Ok-None.field-0-is (c.in-Ok-None.ensures.begun around purpose));
    }
