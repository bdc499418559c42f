use Rattle.std.proofs.Common.{◌≡◌, drop}
use Rattle.closed_types.specs.SharedTrees.{trees, Grows}
use Rattle.reached_instances.specs.SourceView.{source, instance, IsReady}
use Rattle.reached_instances.proofs.Declaring.{sames}
use Rattle.reached_instances.proofs.source.Source.same_parameters.Given as goal

abbrev pub invariant-loop-p : goal.invariant-loop-p
invariant-loop-p l = record {
  index : l.place ≡ l.p-index;
  grows : Grows l.initial.shared.branches l.shared.branches;
  fits : l.shared.fits ≡ l.initial.shared.fits;
  same : IsReady l.self l.initial.shared.branches l.there → IsReady l.self l.initial.shared.branches l.here → sames (source l.self) (instance (trees l.initial.shared.branches) l.there) (instance (trees l.initial.shared.branches) l.here) (drop l.p-index l.wanted) (drop l.p-index l.found) ≡ sames (source l.self) (instance (trees l.initial.shared.branches) l.there) (instance (trees l.initial.shared.branches) l.here) l.wanted l.found;
}
