use Rattle.std.proofs.Common.{get_or, ℕ, ◌+◌, ◌<◌, length, refl, sym}
use Rattle.closed_types.specs.SharedTrees.{tree_at, trees}
use Rattle.closed_types.specs.TypeInstances.{unless_int}
use Rattle.closed_types.proofs.Growing.{grows_same}
use Rattle.reached_instances.proofs.Putting.{item_is, all_of_map, every_there, put_as, put_ends, put_starts, put_step, put_unless}
use Rattle.reached_instances.proofs.type_instances.put_all.Goals as goal

pub loop-place-init : goal.loop-place-init
loop-place-init c = λ w v. put_starts (λ (i : ℕ). unless_int (tree_at (trees c.args.shared.now.branches) i)) c.args.more.now c.args.shared.now c.args.places.now.items w

pub loop-place-preserved : goal.loop-place-preserved
loop-place-preserved c = λ w v.
    let k = c.args.shared.now in
    let f = λ (i : ℕ). unless_int (tree_at (trees k.branches) i) in
    let x = (get_or c.args.more.now c.loop-place.place-index 0) in
    let p = c.loop-place.invariant w v in
    put_step f c.args.more.now c.loop-place.place-index x k k k c.args.places.now.items c.loop-place.places.items c.put.new.places.items c.loop-place-test.true (item_is c.args.more.now c.loop-place.place-index 0 c.loop-place-test.true) p
    (put_unless k k c.loop-place.places.items c.put.new.places.items x (tree_at (trees k.branches) x) (grows_same k.branches) refl p.within
    (every_there (λ (i : ℕ). i < length k.branches + 1) c.args.more.now c.loop-place.place-index x v c.loop-place-test.true (item_is c.args.more.now c.loop-place.place-index 0 c.loop-place-test.true)) refl c.in_ok-put.ensures)

pub returns : goal.returns
returns c = λ w v.
    let k = c.args.shared.now in
    let f = λ (i : ℕ). unless_int (tree_at (trees k.branches) i) in
    put_as k k c.args.places.now.items c.loop-place.places.items _ _ (sym (all_of_map unless_int (tree_at (trees k.branches)) c.args.more.now))
    (put_ends f c.args.more.now c.loop-place.place-index k k c.args.places.now.items c.loop-place.places.items c.loop-place-test.false (c.loop-place.invariant w v))
