use Rattle.std.proofs.Common.{◌≡◌, take}
use Rattle.cell_store.specs.Flat.{over_at}
use Rattle.cell_store.proofs.flat.write_slice.Given as goal

abbrev pub invariant-loop-i : goal.invariant-loop-i
invariant-loop-i l = record {
  written : l.words ≡ over_at l.fn.words l.start (take l.i l.new);
}
