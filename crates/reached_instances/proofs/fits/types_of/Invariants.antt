use Rattle.std.proofs.Common.{◌≡◌, map}
use Rattle.fip_base.specs.CoreView.{static}
use Rattle.reached_instances.proofs.Gathering.{AreTyped}
use Rattle.reached_instances.proofs.fits.types_of.Given as goal

abbrev pub invariant-loop-parameter : goal.invariant-loop-parameter
invariant-loop-parameter l = record {
  index : l.number ≡ l.parameter-index;
  typed : AreTyped (map static l.parameters) l.arguments l.places.items l.parameter-index;
}
