use Rattle.std.proofs.Common.{◌≡◌, ◌≤◌, ℕ, List, drop, length}
use Rattle.fip_language.specs.Store.{Placed}
use Rattle.fip_machine.specs.machine_cells.Small.{store_of}
use Rattle.session_correctness.specs.tree_refinement.machine_semantics.Cells.{IsStore, there}
use Rattle.fip_session.specs.Gone.{AreStanding, IsLent, lent_of}
use Rattle.fip_session.proofs.GivingUp.{Releasing}
use Rattle.fip_session.proofs.call.release_lent.Given as goal

-- the first values that were lent are given up
abbrev pub invariant-loop-value : goal.invariant-loop-value
invariant-loop-value l = record {
  cells : l.cells.cells ≡ l.fn.cells.cells;
  up : length l.fn.cells.cells ≤ 16777216 → IsStore (store_of l.fn.cells.cells l.fn.cells.released) → (xs : List Placed) → AreStanding IsLent l.book.table.now l.fn.cells.cells l.values xs → ((q : ℕ) → lent_of l.values xs q ≤ there (store_of l.fn.cells.cells l.fn.cells.released) q) → Releasing l.book.table.now l.values xs (store_of l.fn.cells.cells l.fn.cells.released) (store_of l.cells.cells l.cells.released) (drop l.value-index l.values);
}
