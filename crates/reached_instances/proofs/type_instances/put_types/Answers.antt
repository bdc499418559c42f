use Rattle.std.proofs.Common.{get_or, ℕ, ◌+◌, ◌<◌, length}
use Rattle.closed_types.specs.Closed.{MoreClosed, NoClosed}
use Rattle.closed_types.specs.SharedTrees.{tree_at, trees}
use Rattle.closed_types.specs.TypeInstances.{types_among}
use Rattle.reached_instances.proofs.Putting.{item_is, every_there, put_as, put_ends, put_starts, put_step}
use Rattle.reached_instances.proofs.Typing.{types_each}
use Rattle.reached_instances.proofs.type_instances.put_types.Goals as goal

pub loop-argument-init : goal.loop-argument-init
loop-argument-init c = λ v w. put_starts (λ (i : ℕ). types_among (MoreClosed (tree_at (trees c.args.shared.now.branches) i) NoClosed)) c.args.arguments.now c.args.shared.now c.args.places.now.items w

pub loop-argument-preserved : goal.loop-argument-preserved
loop-argument-preserved c = λ v w.
    let k = c.args.shared.now in
    let x = (get_or c.args.arguments.now c.loop-argument.argument-index 0) in
    let p = c.loop-argument.invariant v w in
    put_step (λ (i : ℕ). types_among (MoreClosed (tree_at (trees k.branches) i) NoClosed)) c.args.arguments.now c.loop-argument.argument-index x k k k c.args.places.now.items c.loop-argument.places.items c.put_type.new.places.items c.loop-argument-test.true (item_is c.args.arguments.now c.loop-argument.argument-index 0 c.loop-argument-test.true) p
    (c.in_ok-put_type.ensures (every_there (λ (i : ℕ). i < length k.branches + 1) c.args.arguments.now c.loop-argument.argument-index x v c.loop-argument-test.true (item_is c.args.arguments.now c.loop-argument.argument-index 0 c.loop-argument-test.true)) p.within)

pub returns : goal.returns
returns c = λ v w.
    let k = c.args.shared.now in
    put_as k k c.args.places.now.items c.loop-argument.places.items _ _ (types_each (trees k.branches) c.args.arguments.now)
    (put_ends (λ (i : ℕ). types_among (MoreClosed (tree_at (trees k.branches) i) NoClosed)) c.args.arguments.now c.loop-argument.argument-index k k c.args.places.now.items c.loop-argument.places.items c.loop-argument-test.false (c.loop-argument.invariant v w))
