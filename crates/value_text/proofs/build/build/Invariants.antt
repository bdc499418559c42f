use Rattle.std.proofs.Common.{◌-◌, ◌≤◌, length}
use Rattle.fip_language.specs.SoundTable.{IsSoundTable, AreTypes}
use Rattle.value_text.specs.Reading.{outline, whole}
use Rattle.value_text.specs.Building.{IsGoing}
use Rattle.value_text.specs.Loaded.{types_of}
use Rattle.value_text.proofs.build.build.Given as goal

abbrev pub invariant-values : goal.invariant-values
invariant-values l = record {
  within : l.cursor.at ≤ length l.bytes;
  going : IsSoundTable l.table → AreTypes l.table (types_of l.params) → IsGoing l.table (whole (types_of l.params)) l.bytes l.initial.loader (outline l.cursor) l.cursor.at l.words.items l.loader;
}

abbrev pub decreases-values : goal.decreases-values
decreases-values l = length l.bytes - l.cursor.at
