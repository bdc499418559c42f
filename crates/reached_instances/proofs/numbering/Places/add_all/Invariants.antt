use Rattle.std.proofs.Common.{◌≡◌, drop, nat_eq}
use Rattle.closed_types.specs.Numbering.{with_all}
use Rattle.reached_instances.proofs.numbering.Places.add_all.Given as goal

abbrev pub invariant-loop-place : goal.invariant-loop-place
invariant-loop-place l = with_all nat_eq l.self-inside.set.keys (drop l.place-index l.places) ≡ with_all nat_eq l.initial.self-inside.set.keys l.places
