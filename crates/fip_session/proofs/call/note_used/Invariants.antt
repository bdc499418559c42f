use Rattle.std.proofs.Common.{◌≡◌, ◌≤◌, ◌+◌, ℕ, List, drop, length}
use Rattle.fip_language.specs.Every.{Every}
use Rattle.fip_language.specs.Store.{count}
use Rattle.session_correctness.specs.Lodging.{Lodged}
use Rattle.store_trees.specs.Added.{places_of}
use Rattle.value_text.specs.Standing.{Stands}
use Rattle.fip_session.specs.Gone.{named_uses}
use Rattle.fip_session.specs.Planned.{Finds, names_used}
use Rattle.fip_session.proofs.call.note_used.Given as goal

-- the trees of the first names that are used up are noted
abbrev pub invariant-loop-given : goal.invariant-loop-given
invariant-loop-given l = length l.cells.cells ≤ 16777216 → (ls : List Lodged) → Finds l.book.held ls → Every (λ h. Stands l.book.table.now l.cells.cells h.type h.tree) ls → (q : ℕ) → count q (places_of l.trees.list.items) + named_uses ls (names_used (drop l.given-index l.given-items)) q ≡ count q (places_of l.fn.trees.list.items) + named_uses ls (names_used l.given-items) q
