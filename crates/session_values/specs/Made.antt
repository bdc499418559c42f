-- For private contracts alone: which cells a loader has made since.
use Rattle.std.specs.Prelude.{◌≡◌, ◌+◌, ℕ}
use Rattle.cell_store.specs.Cells.{cell_at}
use Rattle.cell_store.specs.Made.{Loading}
use Rattle.value_text.specs.Loaded.{live}

-- Each cell that was made or taken is used so often; those that were live before stay as they were.
pub record AreMade (first now : Loading) (uses : ℕ → ℕ) : Type 0 where
  pub once : (p : ℕ) → live first p + uses p ≡ live now p
  pub kept : (p : ℕ) → live first p ≡ 1 → cell_at now.cells p ≡ cell_at first.cells p
