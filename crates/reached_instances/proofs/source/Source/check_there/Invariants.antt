use Rattle.std.proofs.Common.{◌≡◌, ◌&&◌, drop, map}
use Rattle.fip_base.specs.CoreView.{static, writtens}
use Rattle.fip_trees.specs.Least.{after}
use Rattle.reached_instances.specs.KnownFits.{IsRight}
use Rattle.closed_types.specs.SharedTrees.{trees, Grows}
use Rattle.reached_instances.specs.SourceView.{source, instance, IsAsked}
use Rattle.closed_types.specs.Uses.{all_fit, misfits}
use Rattle.closed_types.specs.UsesView.{AreAllWithin, all_trees}
use Rattle.reached_instances.proofs.source.Source.check_there.Given as goal

abbrev pub invariant-loop-parameter : goal.invariant-loop-parameter
invariant-loop-parameter l = record {
  index : l.number ≡ l.parameter-index;
  grows : Grows l.initial.shared.branches l.shared.branches;
  right : IsRight l.self l.initial.shared → IsAsked l.initial.shared.branches l.place l.there → AreAllWithin l.initial.shared.branches l.arguments → IsRight l.self l.shared;
  fit : IsRight l.self l.initial.shared → IsAsked l.initial.shared.branches l.place l.there → AreAllWithin l.initial.shared.branches l.arguments → (l.all && all_fit (source l.self) (instance (trees l.initial.shared.branches) l.there) (drop l.parameter-index (map static l.parameters)) (drop l.parameter-index (all_trees (trees l.initial.shared.branches) l.arguments))) ≡ all_fit (source l.self) (instance (trees l.initial.shared.branches) l.there) (map static l.parameters) (all_trees (trees l.initial.shared.branches) l.arguments);
  faults : IsRight l.self l.initial.shared → IsAsked l.initial.shared.branches l.place l.there → AreAllWithin l.initial.shared.branches l.arguments → after l.least (misfits (source l.self) l.here.number (instance (trees l.initial.shared.branches) l.there) (drop l.parameter-index (map static l.parameters)) (writtens (drop l.parameter-index l.statics)) (drop l.parameter-index (all_trees (trees l.initial.shared.branches) l.arguments))) ≡ after l.initial.least (misfits (source l.self) l.here.number (instance (trees l.initial.shared.branches) l.there) (map static l.parameters) (writtens l.statics) (all_trees (trees l.initial.shared.branches) l.arguments));
}
