-- Words that stay, and words that become 0.
use Rattle.std.specs.Prelude.{◌≡◌, ℕ, ◌<◌, ◌≤◌, List, length, slice_index_or}

-- the first n words are the same
abbrev pub Keeps : ℕ → List ℕ → List ℕ → Type 0
Keeps n old new = (i : ℕ) → i < n → slice_index_or new i 0 ≡ slice_index_or old i 0

-- The words from a number up to another become 0, and those before them stay.
pub record Clears (from to : ℕ) (old new : List ℕ) : Type 0 where
  pub long : length new ≡ length old
  pub keeps : Keeps from old new
  pub zero : (i : ℕ) → from ≤ i → i < to → slice_index_or new i 0 ≡ 0
