use Rattle.std.proofs.Common.{get_or, ℕ, sym}
use Rattle.closed_types.specs.SharedTrees.{tree_at, trees}
use Rattle.closed_types.specs.TypeInstances.{types_given}
use Rattle.reached_instances.proofs.Putting.{item_is, all_of_map, put_as, put_ends, put_starts, put_step}
use Rattle.reached_instances.proofs.type_instances.put_passed.Goals as goal

pub loop-place-init : goal.loop-place-init
loop-place-init c = λ w. put_starts (λ (i : ℕ). types_given (tree_at (trees c.args.shared.now.branches) i)) c.args.passed.now c.args.shared.now c.args.places.now.items w

pub loop-place-preserved : goal.loop-place-preserved
loop-place-preserved c = λ w.
    let k = c.args.shared.now in
    let p = c.loop-place.invariant w in
    put_step (λ (i : ℕ). types_given (tree_at (trees k.branches) i)) c.args.passed.now c.loop-place.place-index (get_or c.args.passed.now c.loop-place.place-index 0) k k k c.args.places.now.items c.loop-place.places.items c.put_given.new.places.items c.loop-place-test.true (item_is c.args.passed.now c.loop-place.place-index 0 c.loop-place-test.true) p (c.in_ok-put_given.ensures p.within)

pub returns : goal.returns
returns c = λ w.
    let k = c.args.shared.now in
    put_as k k c.args.places.now.items c.loop-place.places.items _ _ (sym (all_of_map types_given (λ (i : ℕ). tree_at (trees k.branches) i) c.args.passed.now))
    (put_ends (λ (i : ℕ). types_given (tree_at (trees k.branches) i)) c.args.passed.now c.loop-place.place-index k k c.args.places.now.items c.loop-place.places.items c.loop-place-test.false (c.loop-place.invariant w))
