-- The words so far are the first ones of the cell's fields.
use Rattle.std.proofs.Common.{◌≡◌, Some, take}
use Rattle.fip_base.specs.fip_language.Store.{Cell}
use Rattle.cell_store.specs.Cells.{cell_at}
use Rattle.cell_trace.proofs.recorder.fields_of.Given as goal

abbrev pub invariant-loop-i : goal.invariant-loop-i
invariant-loop-i l = (c : Cell) → cell_at l.cells.cells l.place ≡ Some c → l.fields.items ≡ take l.i c.fields
