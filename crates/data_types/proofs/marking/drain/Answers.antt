use Rattle.std.proofs.Common.{subst, arith}
use Rattle.data_types.specs.View as v
use Rattle.data_types.specs.Steps.{Goes}
use Rattle.data_types.proofs.Stepping.{goes_then, goes_next}
use Rattle.data_types.proofs.marking.drain.Goals as goal

pub loop-place-preserved : goal.loop-place-preserved
loop-place-preserved c =
    let ds = v.declarations c.args.declared.now in
    let next = goes_next ds c.loop-place.claims c.next.new.self c.in-Some.place c.in-Some.ensures in
    let rest = subst (λ s. Goes ds s c.visit_all.new.claims) c.take-waiters.ensures c.in_ok-visit_all.ensures in
    goes_then ds c.args.claims.now c.loop-place.claims c.visit_all.new.claims c.loop-place.invariant (goes_then ds c.loop-place.claims c.next.new.self c.visit_all.new.claims next.0 rest)

pub loop-place-smaller : goal.loop-place-smaller
loop-place-smaller c =
    let ds = v.declarations c.args.declared.now in
    let next = goes_next ds c.loop-place.claims c.next.new.self c.in-Some.place c.in-Some.ensures in
    let rest = subst (λ s. Goes ds s c.visit_all.new.claims) c.take-waiters.ensures c.in_ok-visit_all.ensures in
    let l = next.1 in
    let m = rest.left in
    omega (arith, l, m)
