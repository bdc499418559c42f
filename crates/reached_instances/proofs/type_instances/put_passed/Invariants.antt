use Rattle.std.proofs.Common.{take}
use Rattle.fip_base.specs.fip_language.Mentions.{all_of}
use Rattle.closed_types.specs.PutView.{Put}
use Rattle.closed_types.specs.SharedTrees.{AreWithin, tree_at, trees}
use Rattle.closed_types.specs.TypeInstances.{types_given}
use Rattle.reached_instances.proofs.type_instances.put_passed.Given as goal

abbrev pub invariant-loop-place : goal.invariant-loop-place
invariant-loop-place l = AreWithin l.shared.branches l.initial.places.items → Put l.shared l.shared l.initial.places.items l.places.items (all_of (λ i. types_given (tree_at (trees l.shared.branches) i)) (take l.place-index l.passed))
