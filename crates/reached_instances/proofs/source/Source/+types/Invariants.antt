use Rattle.std.proofs.Common.{◌≡◌, drop}
use Rattle.fip_base.specs.CoreView.{writtens}
use Rattle.fip_trees.specs.Least.{after}
use Rattle.closed_types.specs.SharedTrees.{trees, Grows}
use Rattle.reached_instances.specs.SourceView.{source, instance, IsReady}
use Rattle.closed_types.specs.Uses.{types_faults}
use Rattle.reached_instances.proofs.Closing.{IsClosing}
use Rattle.reached_instances.proofs.source.Source.+types.Given as goal

abbrev pub invariant-closed_types-loop-written : goal.invariant-closed_types-loop-written
invariant-closed_types-loop-written l = record {
  grows : Grows l.initial.shared.branches l.shared.branches;
  fits : l.shared.fits ≡ l.initial.shared.fits;
  closing : IsReady l.self l.initial.shared.branches l.here → IsClosing (source l.self) (instance (trees l.initial.shared.branches) l.here) l.list l.shared.branches l.places.items l.all l.written-index;
  faults : IsReady l.self l.initial.shared.branches l.here → after l.least (types_faults (source l.self) l.here.number (instance (trees l.initial.shared.branches) l.here) (writtens (drop l.written-index l.list))) ≡ after l.initial.least (types_faults (source l.self) l.here.number (instance (trees l.initial.shared.branches) l.here) (writtens l.list));
}
