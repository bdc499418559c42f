use Rattle.std.proofs.Common.{◌≡◌, ◌≤◌, ◌++◌, length, drop, take}
use Rattle.fip_base.specs.fip_language.Core as C
use Rattle.closed_types.specs.Instances.{place_of, put_in_order}
use Rattle.closed_types.proofs.Ordering.{backwards}
use Rattle.closed_types.proofs.mentions.site_place.Given as goal

abbrev pub invariant-loop-at : goal.invariant-loop-at
invariant-loop-at l = record {
  within : l.at ≤ length l.sites;
  passed : (u : C.Written) → (place_of u).at ≡ l.place.at → put_in_order u (backwards l.sites) ≡ backwards (drop l.at l.sites) ++ put_in_order u (backwards (take l.at l.sites));
}

abbrev pub decreases-loop-at : goal.decreases-loop-at
decreases-loop-at l = l.at
