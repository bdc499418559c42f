use Rattle.std.proofs.Common.{subst, sym, ◌+◌, arith}
use Rattle.data_types.specs.View as v
use Rattle.data_types.proofs.Stepping.{Passing, passing_next}
use Rattle.data_types.proofs.marking.pass.Goals as goal

pub loop-place-preserved : goal.loop-place-preserved
loop-place-preserved c =
    subst (λ x. Passing (v.declarations c.args.declared.now) c.args.claims.now c.settle.new.claims x (c.loop-place.place + 1)) (sym c.either-changed.ensures)
    (passing_next (v.declarations c.args.declared.now) c.args.claims.now c.loop-place.claims c.settle.new.claims c.loop-place.changed c.in_ok-visited.visited c.loop-place.place c.loop-place.invariant c.in_ok-visited.ensures.step c.in_ok-visited.ensures.done)

pub returns-clause-done : goal.returns-clause-done
returns-clause-done c = λ e i lt. c.loop-place.invariant.1 e i (let n = c.count.ensures.count in let t = c.loop-place-test.false in omega (arith, n, t, lt))
