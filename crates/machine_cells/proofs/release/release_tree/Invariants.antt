-- The cells of the tree are those that were released and then those that are on the stack, which falls with each tree that is taken off it.
use Rattle.std.proofs.Common.{◌≡◌, ℕ, List, [], ◌++◌, Some, map}
use Rattle.fip_language.specs.Store.{Placed, places}
use Rattle.cell_store.specs.Reported.{Reported, Released}
use Rattle.machine_semantics.specs.Cells.{Store, Release, changed_by}
use Rattle.machine_semantics.specs.Trees.{tree_of}
use Rattle.machine_cells.specs.Counting.{CountsReleased}
use Rattle.machine_cells.specs.Live.{work}
use Rattle.machine_cells.specs.Small.{IsSmall, store_of}
use Rattle.machine_cells.specs.Pending.{Held}
use Rattle.machine_cells.proofs.release.release_tree.Given as goal

abbrev pub invariant-loop-next : goal.invariant-loop-next
invariant-loop-next g l = record {
  cells : g.C.Cells.cells l.cells ≡ g.C.Cells.cells l.fn.cells;
  counted : CountsReleased (g.C.Cells.cells l.fn.cells) (g.C.Cells.released l.fn.cells) l.fn.freed (g.C.Cells.cells l.cells) (g.C.Cells.released l.cells) l.freed;
  held : IsSmall (g.C.Cells.cells l.fn.cells) → g.C.Cells.pushed l.fn.cells ≡ [] → (x : Placed) (s : Store) →
      tree_of l.types (store_of (g.C.Cells.cells l.fn.cells) (g.C.Cells.released l.fn.cells)) l.ty l.word ≡ Some x →
      changed_by (map (λ p. Release p) (places x)) (store_of (g.C.Cells.cells l.fn.cells) (g.C.Cells.released l.fn.cells)) ≡ Some s →
      (done left : List ℕ) × (done ++ left ≡ places x)
      × Held l.types (store_of (g.C.Cells.cells l.fn.cells) (g.C.Cells.released l.fn.cells)) (store_of (g.C.Cells.cells l.cells) (g.C.Cells.released l.cells)) s (g.C.Cells.pushed l.cells) left
      × ((first : g.row.C.Denot) (ts : List Reported) → g.C.Cells.was_reported first ts l.fn.cells → g.C.Cells.was_reported first (ts ++ map (λ p. Released p) done) l.cells);
}

abbrev pub decreases-loop-next : goal.decreases-loop-next
decreases-loop-next g l = work (g.C.Cells.cells l.cells) (g.C.Cells.released l.cells) (g.C.Cells.pushed l.cells)
