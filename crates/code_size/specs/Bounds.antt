-- How many instructions and label maps the code of an instance may have, by its registers and its places.
use Rattle.std.specs.Prelude.{ℕ, ◌+◌, ◌*◌, ◌≤◌}
use Rattle.match_cover.specs.fip_language.Table.{Table}
use Rattle.match_cover.specs.fip_trees.Tree.{Instance}
use Rattle.tail_groups.specs.Registers.{registers}
use Rattle.code_size.specs.Places.{places}

-- with so many registers and places
abbrev pub most_for : ℕ → ℕ → ℕ
most_for registers places = 16 * (registers + 16) * places

abbrev pub most_instructions : Table → Instance → ℕ
most_instructions tb d = most_for (registers d) (places tb d)

abbrev pub most_labels : Table → Instance → ℕ
most_labels tb d = 8 * places tb d

-- code of so many instructions and label maps is within the bounds
pub record IsWithin (tb : Table) (d : Instance) (instructions labels : ℕ) : Type 0 where
  pub few_instructions : instructions ≤ most_instructions tb d
  pub few_labels : labels ≤ most_labels tb d
