use Rattle.std.proofs.Common.{◌+◌, ◌<◌, drop}
use Rattle.fip_base.specs.fip_language.Every.{Every}
use Rattle.closed_types.proofs.closed.are_below.Given as goal

abbrev pub invariant-loop-place : goal.invariant-loop-place
invariant-loop-place l = record {
  yes : Every (λ i. i < l.n + 1) (drop l.place-index l.places) → Every (λ i. i < l.n + 1) l.places;
  no : Every (λ i. i < l.n + 1) l.places → Every (λ i. i < l.n + 1) (drop l.place-index l.places);
}
