use Rattle.std.proofs.Common.{◌∙◌, ℕ, List, ap, subst, sym}
use Rattle.closed_types.specs.SharedTrees.{AreWithin, tree_at, trees, trees_at}
use Rattle.closed_types.specs.TypeInstances.{types_among}
use Rattle.reached_instances.proofs.Putting.{put_as}
use Rattle.reached_instances.proofs.Typing.{given_types}
use Rattle.reached_instances.proofs.type_instances.put_given.Goals as goal

pub returns : goal.returns
returns c = λ w.
    let k = c.args.shared.now in
    put_as k k c.args.places.now.items c.put_types.new.places.items _ _
    (ap (λ (is : List ℕ). types_among (trees_at (trees k.branches) is)) c.deref.ensures.value ∙ ap types_among c.in_ok-arguments.ensures.trees ∙ given_types (tree_at (trees k.branches) c.args.place))
    (c.in_ok-put_types.ensures (subst (AreWithin k.branches) (sym c.deref.ensures.value) c.in_ok-arguments.ensures.within) w)
