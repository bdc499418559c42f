-- The same places so far, and stacks up to the index.
use Rattle.std.proofs.Common.{◌≤◌, vec_len}
use Rattle.cell_store.specs.Free.{KeepsPlaces}
use Rattle.cell_store.proofs.places.reserve.Given as goal

abbrev pub invariant-loop : goal.invariant-loop
invariant-loop l = record {
  kept : KeepsPlaces l.initial.stacks.items l.stacks.items;
  reached : l.counter ≤ vec_len l.stacks;
}
