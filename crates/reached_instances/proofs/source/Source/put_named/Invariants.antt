use Rattle.std.proofs.Common.{[], ◌∷◌, take}
use Rattle.fip_base.specs.fip_language.Mentions.{all_of}
use Rattle.closed_types.specs.declared.closed.Head.TheVariants as H
use Rattle.closed_types.specs.Closed.{Applied, NoClosed}
use Rattle.closed_types.specs.PutView.{Put}
use Rattle.closed_types.specs.SharedTrees.{AreWithin}
use Rattle.reached_instances.proofs.source.Source.put_named.Given as goal

abbrev pub invariant-loop-number : goal.invariant-loop-number
invariant-loop-number l = AreWithin l.initial.shared.branches l.initial.places.items → Put l.initial.shared l.shared l.initial.places.items l.places.items (all_of (λ n. Applied (H.«Type» n) NoClosed ∷ []) (take l.number-index l.numbers))
