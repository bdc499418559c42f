use Rattle.std.proofs.Common.{◌≡◌, [], map, drop}
use Rattle.fip_base.specs.CoreView.{static}
use Rattle.fip_trees.specs.Names.{with_meanings}
use Rattle.closed_types.specs.Source.{static_meanings}
use Rattle.reached_instances.proofs.source.static_places.Given as goal

abbrev pub invariant-loop-parameter : goal.invariant-loop-parameter
invariant-loop-parameter l = record {
  index : l.place ≡ l.parameter-index;
  places : with_meanings l.places (static_meanings l.place (map static (drop l.parameter-index l.statics))) ≡ with_meanings [] (static_meanings 0 (map static l.statics));
}
