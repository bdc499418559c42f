use Rattle.std.proofs.Common.{◌≡◌, map}
use Rattle.closed_types.specs.SharedTrees.{Grows}
use Rattle.reached_instances.specs.SourceView.{function_source}
use Rattle.reached_instances.proofs.Reaching.{AreRooted}
use Rattle.reached_instances.proofs.instances.InstancesReaching.starts.Given as goal

abbrev pub invariant-loop-found : goal.invariant-loop-found
invariant-loop-found l = record {
  number : l.number ≡ l.found-index;
  grows : Grows l.initial.shared.branches l.shared.branches;
  fits : l.shared.fits ≡ l.initial.shared.fits;
  rooted : AreRooted (map function_source l.found-items) l.shared.branches l.places.items l.found-index;
}
