-- A bit for each place: 1 where a cell begins.
use Rattle.std.specs.Prelude.{◌≡◌, ℕ, ◌*◌, ◌/◌, ◌%◌, ◌≤◌, Bool, List, length, nat_eq, is_some, slice_index_or}
use Rattle.std.specs.Int.{bit_at}
use Rattle.cell_store.specs.Cells.{Cells, cell_at}

abbrev pub is_marked : List ℕ → ℕ → Bool
is_marked bits p = nat_eq (bit_at (slice_index_or bits (p / 64) 0) (p % 64)) 1

-- The bits mark just the places where a cell begins, and reach as far as the numbers.
pub record IsMarked (cells : Cells) (bits : List ℕ) : Type 0 where
  pub wide : length cells ≤ 64 * length bits
  pub exact : (p : ℕ) → is_marked bits p ≡ is_some (cell_at cells p)
