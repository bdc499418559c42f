use Rattle.std.proofs.Common.{List, ℕ, ◌-◌, ◌≤◌, length}
use Rattle.fip_language.specs.SoundTable.{IsSoundTable}
use Rattle.cell_store.specs.Made.{Loading}
use Rattle.value_text.specs.Reading.{outline, whole}
use Rattle.value_text.specs.Building.{IsGoing}
use Rattle.value_text.proofs.build.build_ends.Given as goal

abbrev pub invariant-ends : goal.invariant-ends
invariant-ends l = record {
  from : l.initial.cursor.at ≤ l.cursor.at;
  within : l.cursor.at ≤ length l.bytes;
  going : IsSoundTable l.table → (types : List ℕ) (first : Loading) → IsGoing l.table (whole types) l.bytes first (outline l.initial.cursor) l.initial.cursor.at l.initial.words.items l.initial.loader → IsGoing l.table (whole types) l.bytes first (outline l.cursor) l.cursor.at l.words.items l.loader;
}

abbrev pub decreases-ends : goal.decreases-ends
decreases-ends l = length l.bytes - l.cursor.at
