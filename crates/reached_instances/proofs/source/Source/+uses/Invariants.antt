use Rattle.std.proofs.Common.{◌≡◌, drop, map}
use Rattle.fip_base.specs.CoreView.{static, writtens}
use Rattle.fip_trees.specs.Least.{after}
use Rattle.reached_instances.specs.KnownFits.{IsRight}
use Rattle.closed_types.specs.SharedTrees.{trees, Grows, AreWithin}
use Rattle.reached_instances.specs.SourceView.{source, instance}
use Rattle.closed_types.specs.Uses.{arguments_faults}
use Rattle.closed_types.proofs.Arguing.{IsArguing}
use Rattle.reached_instances.proofs.source.Source.+uses.Given as goal

abbrev pub invariant-closed_arguments-loop-written : goal.invariant-closed_arguments-loop-written
invariant-closed_arguments-loop-written l = record {
  index : l.place ≡ l.written-index;
  grows : Grows l.initial.shared.branches l.shared.branches;
  right : IsRight l.self l.initial.shared → AreWithin l.initial.shared.branches l.here.given.items → IsRight l.self l.shared;
  arguing : IsRight l.self l.initial.shared → AreWithin l.initial.shared.branches l.here.given.items → IsArguing (source l.self) (instance (trees l.initial.shared.branches) l.here) (map static l.parameters) l.statics l.shared.branches l.arguments.items l.written-index;
  faults : IsRight l.self l.initial.shared → AreWithin l.initial.shared.branches l.here.given.items → after l.least (arguments_faults (source l.self) l.here.number (instance (trees l.initial.shared.branches) l.here) (drop l.written-index (map static l.parameters)) (writtens (drop l.written-index l.statics))) ≡ after l.initial.least (arguments_faults (source l.self) l.here.number (instance (trees l.initial.shared.branches) l.here) (map static l.parameters) (writtens l.statics));
}
