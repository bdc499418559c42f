use Rattle.std.proofs.Common.{◌≤◌, ℕ, List, length}
use Rattle.fip_language.specs.Every.{Every}
use Rattle.fip_machine.specs.machine_cells.Small.{store_of}
use Rattle.session_correctness.specs.Lodging.{Lodged, AreDistinct, lodged_uses}
use Rattle.session_correctness.specs.tree_refinement.machine_semantics.Cells.{there}
use Rattle.value_text.specs.Standing.{Stands}
use Rattle.fip_session.specs.Planned.{Finds}
use Rattle.fip_session.proofs.Sweeping.{Gathering}
use Rattle.fip_session.proofs.book.Book.all_trees.Given as goal

-- the trees of the first entries are gathered
abbrev pub invariant-loop-entry : goal.invariant-loop-entry
invariant-loop-entry l = length l.cells.cells ≤ 16777216 → (ls : List Lodged) → Finds l.self.held ls → AreDistinct ls → Every (λ h. Stands l.self.table.now l.cells.cells h.type h.tree) ls → ((q : ℕ) → lodged_uses ls q ≤ there (store_of l.cells.cells l.cells.released) q) → Gathering l.self.table.now l.cells.cells ls l.entry-iterator l.trees.list.items
