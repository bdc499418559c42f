-- The parts whose cells are still to be added.
use Rattle.std.proofs.Common.{◌≡◌, ◌+◌, ◌<◌, ◌≤◌, ◌^◌, ◌++◌, ℕ, List, drop, length, map}
use Rattle.fip_language.specs.declared.limits.TheConstants.{MOST_FIELDS}
use Rattle.fip_language.specs.Store.{Parts, values_of, words_of, places_of_all}
use Rattle.fip_language.specs.Values.{cells_of_all}
use Rattle.value_text.specs.Standing.{StandAll}
use Rattle.store_trees.specs.declared.trees.TheConstants.{MOST_CELLS}
use Rattle.fip_machine.specs.machine_cells.Counting.{freed_of}
use Rattle.fip_tasks.proofs.task.add_arguments.Given as goal

abbrev pub invariant-loop-i : goal.invariant-loop-i
invariant-loop-i l = record {
  added : length l.cells.cells ≤ 2 ^ 32 → (xs : Parts) (more : List ℕ) → StandAll l.table l.cells.cells (map (λ p. p.ty) l.params) xs → l.words ≡ words_of xs ++ more → length (places_of_all xs) ≤ MOST_CELLS →
      (ys : Parts) × StandAll l.table l.cells.cells (map (λ p. p.ty) (drop l.i l.params)) ys × (drop l.i l.words ≡ words_of ys ++ more) × (length (places_of_all ys) ≤ MOST_CELLS)
      × ((k : ℕ) → 1 ≤ k → k ≤ MOST_FIELDS → freed_of l.initial.held k + cells_of_all k (values_of xs) < 2 ^ 64 → freed_of l.held k + cells_of_all k (values_of ys) ≡ freed_of l.initial.held k + cells_of_all k (values_of xs));
}
