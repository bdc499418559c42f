use Rattle.std.proofs.Common.{◌≡◌}
use Rattle.closed_types.specs.SharedTrees.{trees, Grows}
use Rattle.reached_instances.specs.SourceView.{source, instance, IsReady}
use Rattle.reached_instances.proofs.Declaring.{AreDeclared}
use Rattle.reached_instances.proofs.source.Source.declared_types.Given as goal

abbrev pub invariant-loop-written : goal.invariant-loop-written
invariant-loop-written l = record {
  grows : Grows l.initial.shared.branches l.shared.branches;
  fits : l.shared.fits ≡ l.initial.shared.fits;
  declared : IsReady l.self l.initial.shared.branches l.here → AreDeclared (source l.self) (instance (trees l.initial.shared.branches) l.here) l.list l.shared.branches l.places.items l.written-index;
}
