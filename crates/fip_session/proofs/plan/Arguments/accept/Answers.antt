use Rattle.std.proofs.Common.{◌≡◌, false, map, sym, subst}
use Rattle.std.specs.Prelude.{IfOk}
use Rattle.session_lines.specs.Said.{IsGiven}
use Rattle.session_correctness.specs.Lodging.{holding_of}
use Rattle.fip_session.specs.Planned.{IsRefused}
use Rattle.fip_session.proofs.Planning.{given_name}
use Rattle.fip_session.proofs.plan.Arguments.accept.Goals as goal

pub returns-in-Name-clause-refuses : goal.returns-in-Name-clause-refuses
returns-in-Name-clause-refuses c = λ can ls finds g h.
    let e = given_name c.args.bytes.now c.in-Name.name g (subst (λ a. IsGiven c.args.bytes.now a g) c.in-Name.is h) in
    subst (λ g. IfOk c.accept_name.result (λ ok. ok ≡ false → IsRefused c.args.book.now.table.now (map holding_of ls) c.args.self.now c.args.param g)) (sym e) (c.accept_name.ensures.refuses can.known ls finds)
