-- What a store in flat words keeps to at every moment.
use Rattle.std.specs.Prelude.{◌≡◌, ℕ, ◌+◌, ◌≤◌, List, length}
use Rattle.fip_language.specs.declared.limits.TheConstants.{MOST_STORE_WORDS}
use Rattle.cell_store.specs.Cells.{number}
use Rattle.cell_store.specs.Flat.{Laid, IsCounted, parse, flags}
use Rattle.cell_store.specs.Free.{Stack, AreFree}
use Rattle.cell_store.specs.Marks.{IsMarked}

-- Words, marks, the numbers of live cells by size, the stacks of released cells by size, the number of cells, the space
-- for pushed words, and the words that are left.
pub record IsKept (words marks counts : List ℕ) (stacks : List Stack) (cells space left : ℕ) : Type 0 where
  pub laid : Laid 0 words
  pub marked : IsMarked (parse 0 words) marks
  pub counted : IsCounted (parse 0 words) (flags 0 words) counts
  pub free : AreFree (parse 0 words) (flags 0 words) stacks
  pub made : cells ≡ number (parse 0 words)
  pub room : cells ≤ space
  pub few : length words + left ≤ MOST_STORE_WORDS
