-- What is released is counted, by size: of each size as many cells are held and were counted, together, as before, as
-- long as 64 bits count them.
-- Where three cells of size 2 are held and none was counted, a Drop of a list of two items leaves one and counts two.
use Rattle.std.specs.Prelude.{◌≡◌, ℕ, ◌+◌, ◌-◌, ◌<◌, ◌≤◌, ◌^◌, Bool, List, nat_eq, slice_index_or, if◌then◌else◌}
use Rattle.fip_language.specs.declared.limits.TheConstants.{MOST_FIELDS}
use Rattle.cell_store.specs.Cells.{Cells, count_live}

-- the count of size k, from 1, is one place before it
abbrev pub freed_of : List ℕ → ℕ → ℕ
freed_of freed k = slice_index_or freed (k - 1) 0

-- the cells of size k that are held, and those that were counted
abbrev pub held_or_freed : ℕ → Cells → List Bool → List ℕ → ℕ
held_or_freed k cells released freed = freed_of freed k + count_live k cells released

-- from cells, those that are released, and counts, to others
abbrev pub CountsReleased : Cells → List Bool → List ℕ → Cells → List Bool → List ℕ → Type 0
CountsReleased cs rs freed ds qs counts = (k : ℕ) → 1 ≤ k → k ≤ MOST_FIELDS → held_or_freed k cs rs freed < 2 ^ 64 →
    held_or_freed k ds qs counts ≡ held_or_freed k cs rs freed

-- 1 where the sizes are the same
abbrev pub one_of : ℕ → ℕ → ℕ
one_of k size = if nat_eq k size then 1 else 0

-- one cell of a size more was counted
abbrev pub CountsOne : List ℕ → ℕ → List ℕ → Type 0
CountsOne freed size counts = (k : ℕ) → 1 ≤ k → k ≤ MOST_FIELDS → freed_of freed k + one_of k size < 2 ^ 64 →
    freed_of counts k ≡ freed_of freed k + one_of k size
