use Rattle.std.proofs.Common.{subst, sym, ◌+◌, arith}
use Rattle.data_types.specs.View as v
use Rattle.data_types.proofs.Stepping.{Visiting, visiting_next, visiting_last, claim_there}
use Rattle.data_types.proofs.marking.visit_claim.Goals as goal

pub loop-number-preserved : goal.loop-number-preserved
loop-number-preserved c =
    subst (λ x. Visiting (v.declarations c.args.declared.now) c.args.claims.now c.visit.new.claims x c.args.place (c.loop-number.number + 1)) (sym c.either-changed.ensures)
    (visiting_next (v.declarations c.args.declared.now) c.args.claims.now c.loop-number.claims c.visit.new.claims c.loop-number.changed c.in_ok-visited.visited c.args.place c.loop-number.number c.loop-number.invariant c.in_ok-visited.ensures.step c.in_ok-visited.ensures.done)

pub returns-clause-done : goal.returns-clause-done
returns-clause-done c =
    let here = claim_there c.args.claims.now c.args.place c.in_ok-claim.field-0 c.in-Some.claim c.in_ok-claim.ensures c.in-Some.is in
    let end = c.loop-number.auto.number-end in
    let test = c.loop-number-test.false in
    visiting_last (v.declarations c.args.declared.now) c.args.claims.now c.loop-number.claims c.loop-number.changed c.args.place c.in-Some.claim.ty c.in-Some.claim.arguments.items c.loop-number.number c.loop-number.invariant here (let e = c.count_of-count.ensures in omega (arith, e, end, test))
