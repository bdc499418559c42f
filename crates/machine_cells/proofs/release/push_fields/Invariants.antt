-- The cells stay, at most one word was pushed for each field, and those of the fields so far are on the stack.
use Rattle.std.proofs.Common.{◌≡◌, ◌+◌, ◌≤◌, List, ◌++◌, Some, drop, length}
use Rattle.fip_language.specs.Store.{Cell}
use Rattle.cell_store.specs.Cells.{cell_at, number}
use Rattle.cell_store.specs.Reported.{Reported}
use Rattle.machine_cells.specs.Pending.{entries}
use Rattle.machine_cells.proofs.release.push_fields.Given as goal

abbrev pub invariant-loop-i : goal.invariant-loop-i
invariant-loop-i g l = record {
  cells : g.C.Cells.cells l.cells ≡ g.C.Cells.cells l.initial.cells;
  released : g.C.Cells.released l.cells ≡ g.C.Cells.released l.initial.cells;
  few : length (g.C.Cells.pushed l.cells) + l.i ≤ length (g.C.Cells.pushed l.initial.cells) + l.size;
  pushed : (c : Cell) → cell_at (g.C.Cells.cells l.initial.cells) l.place ≡ Some c → length l.types ≡ length c.fields →
      length (g.C.Cells.pushed l.initial.cells) + length (entries l.types c.fields) ≤ number (g.C.Cells.cells l.initial.cells) →
      g.C.Cells.pushed l.cells ≡ g.C.Cells.pushed l.initial.cells ++ entries (drop l.i l.types) (drop l.i c.fields);
  reported : (first : g.row.C.Denot) (ts : List Reported) → g.C.Cells.was_reported first ts l.initial.cells → g.C.Cells.was_reported first ts l.cells;
}
