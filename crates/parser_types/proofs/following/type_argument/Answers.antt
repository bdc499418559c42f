use Rattle.std.proofs.Common.{◌≡◌, false, ◌∷◌, Option, subst}
use Rattle.std.specs.Prelude.{MatchOption, Vec}
use Rattle.std.specs.Global.{Global}
use Rattle.fip_base.specs.CoreView.{written}
use Rattle.fip_grammar.specs.WordView.{word}
use Rattle.fip_grammar.specs.Machine as machine
use Rattle.parser_state.specs.declared.state.OpenType.{OpenType}
use Rattle.parser_state.specs.declared.state.TypePosition.{TypePosition}
use Rattle.parser_state.specs.StateView as view
use Rattle.parser_types.proofs.following.type_argument.Goals as goal

pub returns-in-Ok-Some : goal.returns-in-Ok-Some
returns-in-Ok-Some c =
    let purpose = view.type_use c.args.purpose in
    let read = machine.type_done (view.open_type c.args.around ∷ view.open_types c.args.open.items) purpose (written c.args.written) (word c.args.token.word) in
    record {
      next =
          c.stays_in_type.ensures.next false _ _
          (subst (λ (o : Option (TypePosition × Vec OpenType Global)). MatchOption o (read ≡ machine.Refused) (λ r. read ≡ machine.Stays (machine.InType (view.type_position r.0) (view.open_types r.1.items) purpose))) c.in-Ok-Some.field-0-is (c.in-Ok-Some.ensures.read purpose));
    }

pub returns-in-Ok-None : goal.returns-in-Ok-None
returns-in-Ok-None c =
    let purpose = view.type_use c.args.purpose in
    let read = machine.type_done (view.open_type c.args.around ∷ view.open_types c.args.open.items) purpose (written c.args.written) (word c.args.token.word) in
    record {
      next =
          c.refused.ensures.next false _ _
          (subst (λ (o : Option (TypePosition × Vec OpenType Global)). MatchOption o (read ≡ machine.Refused) (λ r. read ≡ machine.Stays (machine.InType (view.type_position r.0) (view.open_types r.1.items) purpose))) c.in-Ok-None.field-0-is (c.in-Ok-None.ensures.read purpose));
    }
