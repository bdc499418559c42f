use Rattle.std.proofs.Common.{◌≡◌, refl, sym, map, subst}
use Rattle.session_correctness.specs.Lodging.{holding_of}
use Rattle.session_lines.specs.Said.{IsGiven}
use Rattle.session_lines.specs.session_semantics.Talk.{IsTaken}
use Rattle.fip_session.specs.Planned.{IsHeld}
use Rattle.fip_session.specs.Readied.{IsPut}
use Rattle.fip_session.specs.declared.ready.Ready.{Ready}
use Rattle.fip_session.proofs.Planning.{given_name}
use Rattle.fip_session.proofs.Readying.{name_put}
use Rattle.fip_session.proofs.ready.Ready.add_argument.Goals as goal

pub unreachable-requires : goal.unreachable-requires
unreachable-requires c = subst (IsHeld c.args.book.now.held) c.in-Name.is c.requires.held (sym c.in_default.ensures.held)

pub returns-in_ok-push-in-Name : goal.returns-in_ok-push-in-Name
returns-in_ok-push-in-Name c = record {
  put = λ can ls finds lie before g v is taken.
      let b = c.args.book.now in
      let r = c.args.self.now in
      let s : Ready = record { words = c.push.new.self; values = r.values; credits = r.credits } in
      let e = given_name c.args.bytes.now c.in-Name.name g (subst (λ a. IsGiven c.args.bytes.now a g) c.in-Name.is is) in
      subst (λ g. IsPut b.table.now ls before c.args.param g v c.args.loader c.args.loader r s) (sym e)
      (name_put b.table.now ls before c.args.param c.args.loader c.args.loader r s b.held c.in-Name.name.now v c.in-Some.held finds lie (sym c.in-Some.ensures.held) (subst (λ g. IsTaken b.table.now (map holding_of ls) before c.args.param g v) e taken) refl c.in_ok-push-in-Name.ensures.items refl);
}
