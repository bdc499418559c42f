use Rattle.std.proofs.Common.{◌≡◌, ◌≢◌, None, IfSome}
use Rattle.cell_store.specs.Cells.{cell_at}
use Rattle.fip_language.specs.Store.{count}
use Rattle.fip_machine.specs.machine_cells.Small.{store_of}
use Rattle.session_correctness.specs.tree_refinement.machine_semantics.Cells.{IsStore}
use Rattle.store_trees.specs.Added.{places_of}
use Rattle.fip_session.proofs.Sweeping.{Sweeping, left_behind}
use Rattle.fip_session.proofs.sweep.keep_only.Given as goal

-- a cell is at the place that comes next, and those before it were looked at
abbrev pub invariant-loop-at : goal.invariant-loop-at
invariant-loop-at l = record {
  cells : l.cells.cells ≡ l.fn.cells.cells;
  there : IfSome l.at (λ q. cell_at l.cells.cells q ≢ None);
  swept : IsStore (store_of l.fn.cells.cells l.fn.cells.released) → Sweeping (λ q. count q (places_of l.kept.list.items)) (store_of l.fn.cells.cells l.fn.cells.released) (store_of l.cells.cells l.cells.released) l.at;
}

abbrev pub decreases-loop-at : goal.decreases-loop-at
decreases-loop-at l = left_behind l.cells.cells l.at
