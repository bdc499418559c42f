use Rattle.std.proofs.Common.{◌≡◌, ◌≤◌, ◌+◌, ℕ, List, drop, length}
use Rattle.fip_language.specs.Store.{Placed, count}
use Rattle.fip_machine.specs.machine_cells.Small.{store_of}
use Rattle.session_correctness.specs.tree_refinement.machine_semantics.Cells.{there}
use Rattle.store_trees.specs.Added.{places_of}
use Rattle.fip_session.specs.Gone.{AreStanding, IsAny, all_uses}
use Rattle.fip_session.proofs.Noting.{NotesValues}
use Rattle.fip_session.proofs.call.note_values.Given as goal

-- the trees of the first values are noted
abbrev pub invariant-loop-value : goal.invariant-loop-value
invariant-loop-value l = length l.cells.cells ≤ 16777216 → (xs : List Placed) → AreStanding IsAny l.book.table.now l.cells.cells l.values xs → ((q : ℕ) → count q (places_of l.fn.trees.list.items) + all_uses xs q ≤ there (store_of l.cells.cells l.cells.released) q) → NotesValues l.book.table.now l.cells.cells xs l.fn.trees.list.items l.trees.list.items (drop l.value-index l.values)
