-- What the gauge of a task reports. A task's turns release cells of its own and make none, so it held the most of each
-- size at its start, and holds the least now.
--
-- A task that was started with a list of three cells of size 2, and whose turns have released one of them, holds two:
-- its gauge has 2 as the lowest number of that size, and 3 as the highest.
use Rattle.std.specs.Prelude.{◌≡◌, ℕ, ◌+◌, ◌-◌, ◌<◌, ◌≤◌, ◌^◌, List, [], ◌∷◌, ◌++◌, Some, length, map}
use Rattle.std.specs.Prelude.{slice_get, slice_index_or}
use Rattle.fip_language.specs.declared.limits.TheConstants.{MOST_FIELDS}
use Rattle.fip_language.specs.Store.{Parts, values_of, words_of, places_of_all, count}
use Rattle.fip_language.specs.Values.{cells_of_all}
use Rattle.cell_store.specs.Cells.{Cells, cell_at, size_in}
use Rattle.code_verify.specs.Checked.{Checked}
use Rattle.value_text.specs.Standing.{StandAll}
use Rattle.store_trees.specs.declared.trees.TheConstants.{MOST_CELLS}
use Rattle.task_semantics.specs.machine_semantics.Cells.{Store}
use Rattle.fip_machine.specs.cell_code.declared.code.Function.{Function}
use Rattle.fip_machine.specs.machine_cells.Counting.{CountsReleased, freed_of, one_of}
use Rattle.fip_machine.specs.declared.gauge.Gauge.{Gauge}
use Rattle.fip_tasks.specs.declared.task.Start.{Start}
use Rattle.fip_tasks.specs.Turns.{Standing}

-- how many cells of size k, from 1, the task held at its start, and how many its turns have left of them
abbrev pub started_of : Standing → ℕ → ℕ
started_of t k = slice_index_or t.started (k - 1) 0

abbrev pub left_of : Standing → ℕ → ℕ
left_of t k = started_of t k - freed_of t.stack.freed k

-- ---- the start

-- the cells of size k at some places, each as often as its place is there
abbrev pub sized : ℕ → Cells → List ℕ → ℕ
sized k cs [] = 0
sized k cs (p ∷ ps) = one_of k (size_in (cell_at cs p)) + sized k cs ps

-- The numbers of all sizes became more by these, as long as 64 bits count them.
abbrev pub AddsCells : List ℕ → (ℕ → ℕ) → List ℕ → Type 0
AddsCells old more new = (k : ℕ) → 1 ≤ k → k ≤ MOST_FIELDS → freed_of old k + more k < 2 ^ 64 →
    freed_of new k ≡ freed_of old k + more k

-- A task whose words stand for trees of its parameters' types, of no more cells than a store has, holds at its start as
-- many cells of each size as these values and its credits have.
abbrev pub HoldsAtStart : Checked → Cells → Start → List ℕ → Type 0
HoldsAtStart v cs start held = length cs ≤ 2 ^ 32 → (g : Function) (xs : Parts) (more : List ℕ) →
    slice_get v.code.functions.items start.entry ≡ Some g → StandAll v.code.types cs (map (λ p. p.ty) g.params) xs →
    start.words ≡ words_of xs ++ more → length (places_of_all xs) ≤ MOST_CELLS →
    (k : ℕ) → 1 ≤ k → k ≤ MOST_FIELDS →
    freed_of held k ≡ cells_of_all k (values_of xs) + count k g.credits.items

-- ---- the turns

-- Turns of the task led from one store to another, and counted what is released: of each size as many cells as the
-- store holds no more.
pub record HasCounted (old : Standing) (before : Store) (new : Standing) (following : Store) : Type 0 where
  pub started : new.started ≡ old.started
  pub counted : CountsReleased before.cells before.released old.stack.freed following.cells following.released
      new.stack.freed

-- The gauge reports of the states that the task was in.
pub record IsGaugeOf (t : Standing) (g : Gauge) : Type 0 where
  pub lowest : (k : ℕ) → 1 ≤ k → k ≤ MOST_FIELDS → slice_index_or g.lowest (k - 1) 0 ≡ left_of t k
  pub highest : (k : ℕ) → 1 ≤ k → k ≤ MOST_FIELDS → slice_index_or g.highest (k - 1) 0 ≡ started_of t k
  pub frames : g.frames ≡ t.stack.most_frames
  pub words : g.words ≡ t.stack.most_words
