use Rattle.std.proofs.Common.{[], ◌∷◌, take}
use Rattle.fip_base.specs.fip_language.Mentions.{all_of}
use Rattle.closed_types.specs.PutView.{Put}
use Rattle.closed_types.specs.SharedTrees.{AreWithin, trees, trees_at}
use Rattle.closed_types.specs.DeclaredView.{ty}
use Rattle.closed_types.specs.TypeInstances.{field_type}
use Rattle.reached_instances.proofs.type_instances.+fields.Given as goal

abbrev pub invariant-field_places-loop-ty : goal.invariant-field_places-loop-ty
invariant-field_places-loop-ty l = AreWithin l.initial.shared.branches l.given → Put l.initial.shared l.shared [] l.places.items (all_of (λ t. field_type (trees_at (trees l.initial.shared.branches) l.given) (ty t) ∷ []) (take l.ty-index l.types))
