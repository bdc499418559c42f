use Rattle.std.proofs.Common.{get_or, ℕ, ◌+◌, ◌<◌, length, ap, sym}
use Rattle.closed_types.specs.SharedTrees.{tree_at, trees}
use Rattle.reached_instances.specs.SourceView.{source}
use Rattle.closed_types.specs.TypeInstances.{types_of_instance}
use Rattle.reached_instances.proofs.Putting.{item_is, all_of_map, every_there, put_as, put_ends, put_starts, put_step}
use Rattle.closed_types.proofs.Using.{tree_kept}
use Rattle.reached_instances.proofs.source.Source.put_instances.Goals as goal

pub loop-place-init : goal.loop-place-init
loop-place-init c = λ l v w. put_starts (λ (i : ℕ). types_of_instance (source c.args.self.now) (tree_at (trees c.args.shared.now.branches) i)) c.args.instances.now c.args.shared.now c.args.places.now.items w

pub loop-place-preserved : goal.loop-place-preserved
loop-place-preserved c = λ l v w.
    let s = source c.args.self.now in
    let old = c.args.shared.now in
    let mid = c.loop-place.shared in
    let new = c.put_instance.new.shared in
    let x = (get_or c.args.instances.now c.loop-place.place-index 0) in
    let p = c.loop-place.invariant l v w in
    let here = every_there (λ (i : ℕ). i < length old.branches + 1) c.args.instances.now c.loop-place.place-index x v c.loop-place-test.true (item_is c.args.instances.now c.loop-place.place-index 0 c.loop-place-test.true) in
    put_step (λ (i : ℕ). types_of_instance s (tree_at (trees old.branches) i)) c.args.instances.now c.loop-place.place-index x old mid new c.args.places.now.items c.loop-place.places.items c.put_instance.new.places.items c.loop-place-test.true (item_is c.args.instances.now c.loop-place.place-index 0 c.loop-place-test.true) p
    (put_as mid new c.loop-place.places.items c.put_instance.new.places.items _ _ (ap (types_of_instance s) (tree_kept old.branches mid.branches x p.grows here)) (c.in_ok-put_instance.ensures l p.within))

pub returns : goal.returns
returns c = λ l v w.
    let s = source c.args.self.now in
    let old = c.args.shared.now in
    put_as old c.loop-place.shared c.args.places.now.items c.loop-place.places.items _ _ (sym (all_of_map (types_of_instance s) (λ (i : ℕ). tree_at (trees old.branches) i) c.args.instances.now))
    (put_ends (λ (i : ℕ). types_of_instance s (tree_at (trees old.branches) i)) c.args.instances.now c.loop-place.place-index old c.loop-place.shared c.args.places.now.items c.loop-place.places.items c.loop-place-test.false (c.loop-place.invariant l v w))
