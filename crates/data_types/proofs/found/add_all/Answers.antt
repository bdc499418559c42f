use Rattle.std.proofs.Common.{subst, sym, ◌+◌, drop, get_or}
use Rattle.data_types.specs.Marks.{HasAll}
use Rattle.data_types.proofs.Looks.{drop_all, drop_next}
use Rattle.data_types.proofs.found.add_all.Goals as goal

pub loop-place-preserved : goal.loop-place-preserved
loop-place-preserved c = λ bs below rest. c.loop-place.invariant bs (λ k e. below k (c.add.ensures.kept k e)) (subst (HasAll bs) (sym (drop_next c.args.places.now c.loop-place.place-index 0 c.loop-place-test.true)) (below (get_or c.args.places.now c.loop-place.place-index 0) c.add.ensures.added, rest))

pub returns : goal.returns
returns c = c.loop-place.invariant c.loop-place.set (λ k e. e) (subst (HasAll c.loop-place.set) (sym (drop_all c.args.places.now c.loop-place.place-index c.loop-place-test.false)) tt)
