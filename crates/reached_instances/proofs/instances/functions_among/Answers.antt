use Rattle.std.proofs.Common.{get_or, ℕ, ◌+◌, ◌<◌, List, [], length, subst, sym}
use Rattle.closed_types.specs.Closed.{MoreClosed, NoClosed}
use Rattle.closed_types.specs.Instances.{functions_among}
use Rattle.closed_types.specs.PutView.{Put}
use Rattle.closed_types.specs.SharedTrees.{tree_at, trees}
use Rattle.reached_instances.proofs.Putting.{item_is, every_there, put_as, put_ends, put_starts, put_step}
use Rattle.reached_instances.proofs.Typing.{functions_each}
use Rattle.reached_instances.proofs.instances.functions_among.Goals as goal

pub loop-argument-init : goal.loop-argument-init
loop-argument-init c = λ v.
    let k = c.args.shared.now in
    subst (λ (is : List ℕ). Put k k [] is []) (sym c.new-places.ensures.items) (put_starts (λ (i : ℕ). functions_among (MoreClosed (tree_at (trees k.branches) i) NoClosed)) c.args.list.now k [] tt)

pub loop-argument-preserved : goal.loop-argument-preserved
loop-argument-preserved c = λ v.
    let k = c.args.shared.now in
    let x = (get_or c.args.list.now c.loop-argument.argument-index 0) in
    let p = c.loop-argument.invariant v in
    put_step (λ (i : ℕ). functions_among (MoreClosed (tree_at (trees k.branches) i) NoClosed)) c.args.list.now c.loop-argument.argument-index x k k k [] c.loop-argument.places.items c.put_function.new.places.items c.loop-argument-test.true (item_is c.args.list.now c.loop-argument.argument-index 0 c.loop-argument-test.true) p
    (c.in_ok-put_function.ensures (every_there (λ (i : ℕ). i < length k.branches + 1) c.args.list.now c.loop-argument.argument-index x v c.loop-argument-test.true (item_is c.args.list.now c.loop-argument.argument-index 0 c.loop-argument-test.true)) p.within)

pub returns : goal.returns
returns c = λ v.
    let k = c.args.shared.now in
    put_as k k [] c.loop-argument.places.items _ _ (functions_each (trees k.branches) c.args.list.now)
    (put_ends (λ (i : ℕ). functions_among (MoreClosed (tree_at (trees k.branches) i) NoClosed)) c.args.list.now c.loop-argument.argument-index k k [] c.loop-argument.places.items c.loop-argument-test.false (c.loop-argument.invariant v))
