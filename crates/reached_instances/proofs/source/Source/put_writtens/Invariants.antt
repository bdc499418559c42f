use Rattle.std.proofs.Common.{take}
use Rattle.fip_base.specs.fip_language.Mentions.{all_of}
use Rattle.fip_base.specs.CoreView.{written}
use Rattle.closed_types.specs.PutView.{Put}
use Rattle.closed_types.specs.SharedTrees.{AreWithin, trees}
use Rattle.reached_instances.specs.SourceView.{source, instance, IsReady}
use Rattle.closed_types.specs.TypeInstances.{unless_int}
use Rattle.closed_types.specs.Uses.{declared_type}
use Rattle.reached_instances.proofs.source.Source.put_writtens.Given as goal

abbrev pub invariant-loop-written : goal.invariant-loop-written
invariant-loop-written l = IsReady l.self l.initial.shared.branches l.here → AreWithin l.initial.shared.branches l.initial.places.items → Put l.initial.shared l.shared l.initial.places.items l.places.items (all_of (λ w. unless_int (declared_type (source l.self) (instance (trees l.initial.shared.branches) l.here) (written w.now))) (take l.written-index l.list))
