use Rattle.std.proofs.Common.{take}
use Rattle.fip_base.specs.fip_language.Mentions.{all_of}
use Rattle.closed_types.specs.PutView.{Put}
use Rattle.closed_types.specs.SharedTrees.{AreWithin, tree_at, trees}
use Rattle.closed_types.specs.TypeInstances.{unless_int}
use Rattle.reached_instances.proofs.type_instances.put_all.Given as goal

abbrev pub invariant-loop-place : goal.invariant-loop-place
invariant-loop-place l = AreWithin l.shared.branches l.initial.places.items → AreWithin l.shared.branches l.more → Put l.shared l.shared l.initial.places.items l.places.items (all_of (λ i. unless_int (tree_at (trees l.shared.branches) i)) (take l.place-index l.more))
