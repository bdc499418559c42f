use Rattle.std.proofs.Common.{◌≡◌, drop, map}
use Rattle.fip_trees.specs.Least.{after}
use Rattle.closed_types.specs.Instances.{all_use_faults}
use Rattle.reached_instances.specs.KnownFits.{IsRight}
use Rattle.closed_types.specs.MentionsView.{use_of}
use Rattle.closed_types.specs.SharedTrees.{trees, Grows, AreWithin}
use Rattle.reached_instances.specs.SourceView.{source, instance}
use Rattle.reached_instances.proofs.Reaching.{AreReached}
use Rattle.reached_instances.proofs.source.Source.reached.Given as goal

abbrev pub invariant-loop-site : goal.invariant-loop-site
invariant-loop-site l = record {
  grows : Grows l.initial.shared.branches l.shared.branches;
  right : IsRight l.self l.initial.shared → AreWithin l.initial.shared.branches l.here.given.items → IsRight l.self l.shared;
  reached : IsRight l.self l.initial.shared → AreWithin l.initial.shared.branches l.here.given.items → AreReached (source l.self) (instance (trees l.initial.shared.branches) l.here) l.sites l.shared.branches l.places.items l.site-index;
  faults : IsRight l.self l.initial.shared → AreWithin l.initial.shared.branches l.here.given.items → after l.least (all_use_faults (source l.self) l.here.number (instance (trees l.initial.shared.branches) l.here) (map use_of (drop l.site-index l.sites))) ≡ after l.initial.least (all_use_faults (source l.self) l.here.number (instance (trees l.initial.shared.branches) l.here) (map use_of l.sites));
}
