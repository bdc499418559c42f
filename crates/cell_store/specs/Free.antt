-- Stacks of the places of released cells, one for each size.
use Rattle.std.specs.Prelude.{◌≡◌, ℕ, ◌+◌, ◌≤◌, Bool, Option, List, [], Some, None, length, slice_get, slice_index_or}
use Rattle.fip_language.specs.declared.limits.TheConstants.{MOST_FIELDS}
use Rattle.fip_language.specs.Store.{Cell, count}
use Rattle.cell_store.specs.Cells.{Cells, cell_at, one_free, count_live, count_free}

-- places, the top last, and how many the memory that was taken can hold
pub record Stack : Type 0 where
  pub places : List ℕ
  pub room : ℕ

abbrev pub stack_at : List Stack → ℕ → Stack
stack_at stacks k = slice_index_or stacks k (record { places = []; room = 0 })

abbrev pub one_free_in : ℕ → Option Cell → Option Bool → ℕ
one_free_in k None r = 0
one_free_in k (Some c) None = 0
one_free_in k (Some c) (Some r) = one_free k c r

-- 1 where the cell at place p is released and has size k
abbrev pub free_at : ℕ → Cells → List Bool → ℕ → ℕ
free_at k cells released p = one_free_in k (cell_at cells p) (slice_get released p)

-- Each released cell of size k is in the stack once, and there is room for all cells of that size.
pub record IsFree (cells : Cells) (released : List Bool) (k : ℕ) (stack : Stack) : Type 0 where
  pub once : (p : ℕ) → count p stack.places ≡ free_at k cells released p
  pub total : length stack.places ≡ count_free k cells released
  pub room : count_live k cells released + count_free k cells released ≤ stack.room

abbrev pub AreFree : Cells → List Bool → List Stack → Type 0
AreFree cells released stacks = (k : ℕ) → k ≤ MOST_FIELDS → IsFree cells released k (stack_at stacks k)

-- The same places, and no less room.
pub record KeepsPlaces (old new : List Stack) : Type 0 where
  pub places : (k : ℕ) → (stack_at new k).places ≡ (stack_at old k).places
  pub room : (k : ℕ) → (stack_at old k).room ≤ (stack_at new k).room
