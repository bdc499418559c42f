-- The store is kept, and what callers see of it stays.
use Rattle.std.proofs.Common.{◌≡◌}
use Rattle.std.specs.Vec.{vec_capacity}
use Rattle.cell_store.specs.Kept.{IsKept}
use Rattle.cell_store.proofs.flat.Flat.reserve.Given as goal

abbrev pub invariant-loop-size : goal.invariant-loop-size
invariant-loop-size l = record {
  kept : IsKept l.self-inside.words.items l.self-inside.marks.items l.self-inside.counts l.self-inside.free.items l.self-inside.made (vec_capacity l.self-inside.pushed) l.self-inside.left;
  words : l.self-inside.words.items ≡ l.initial.self-inside.words.items;
  pushed : l.self-inside.pushed.items ≡ l.initial.self-inside.pushed.items;
  left : l.self-inside.left ≡ l.initial.self-inside.left;
}
