use Rattle.std.proofs.Common.{sym, true≢false}
use Rattle.cell_store.specs.Cells.{cell_at}
use Rattle.store_trees.proofs.Again.{released_already, none_there}
use Rattle.store_trees.proofs.trees.release.Goals as goal
use Rattle.store_trees.proofs.trees.release.Goals.{else-begins-via-then-begins+else-not-is_released, else-begins-via-else-begins}

pub returns-else-begins-clause-released : goal.returns-else-begins-clause-released
returns-else-begins-clause-released c = elim c.else-begins.branch [
  | else-begins-via-then-begins+else-not-is_released w ↦ released_already (cell_at c.args.cells.now.cells c.args.place) c.args.cells.now.released c.args.place (w.if-not-is_released.ensures)
  | else-begins-via-else-begins w ↦ none_there (cell_at c.args.cells.now.cells c.args.place) c.args.cells.now.released c.args.place (λ some. true≢false (sym (w.if-begins.ensures.1 some)))
]
