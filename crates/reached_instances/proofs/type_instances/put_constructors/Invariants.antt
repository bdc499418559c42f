use Rattle.std.proofs.Common.{take}
use Rattle.fip_base.specs.fip_language.Mentions.{all_of}
use Rattle.closed_types.specs.PutView.{Put}
use Rattle.closed_types.specs.SharedTrees.{AreWithin, trees, trees_at}
use Rattle.reached_instances.specs.SourceView as S
use Rattle.closed_types.specs.TypeInstances.{types_of_fields}
use Rattle.reached_instances.proofs.type_instances.put_constructors.Given as goal

abbrev pub invariant-loop-constructor : goal.invariant-loop-constructor
invariant-loop-constructor l = AreWithin l.initial.shared.branches l.given → AreWithin l.initial.shared.branches l.initial.places.items → Put l.initial.shared l.shared l.initial.places.items l.places.items (all_of (λ k. types_of_fields (trees_at (trees l.initial.shared.branches) l.given) (S.constructor k)) (take l.constructor-index l.constructors))
