use Rattle.std.proofs.Common.{take}
use Rattle.fip_base.specs.fip_language.Mentions.{all_of}
use Rattle.closed_types.specs.PutView.{Put}
use Rattle.closed_types.specs.SharedTrees.{AreWithin, tree_at, trees}
use Rattle.reached_instances.specs.SourceView.{source, IsLookedUp}
use Rattle.closed_types.specs.TypeInstances.{types_of_instance}
use Rattle.reached_instances.proofs.source.Source.put_instances.Given as goal

abbrev pub invariant-loop-place : goal.invariant-loop-place
invariant-loop-place l = IsLookedUp l.self → AreWithin l.initial.shared.branches l.instances → AreWithin l.initial.shared.branches l.initial.places.items → Put l.initial.shared l.shared l.initial.places.items l.places.items (all_of (λ i. types_of_instance (source l.self) (tree_at (trees l.initial.shared.branches) i)) (take l.place-index l.instances))
