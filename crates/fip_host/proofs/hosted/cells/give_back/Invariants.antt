-- Cells are only released.
use Rattle.std.proofs.Common.{◌≡◌}
use Rattle.fip_host.proofs.hosted.cells.give_back.Given as goal

abbrev pub invariant-loop-word : goal.invariant-loop-word
invariant-loop-word l = record {
  cells : l.cells.cells ≡ l.initial.cells.cells;
  pushed : l.cells.pushed ≡ l.initial.cells.pushed;
}
