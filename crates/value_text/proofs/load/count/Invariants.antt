use Rattle.std.proofs.Common.{◌-◌, ◌^◌, ◌≤◌, length}
use Rattle.fip_language.specs.SoundTable.{IsSoundTable, AreTypes}
use Rattle.value_text.specs.Reading.{outline, whole}
use Rattle.value_text.specs.Counting.{IsCounting}
use Rattle.value_text.specs.Loaded.{types_of}
use Rattle.value_text.proofs.load.count.Given as goal

abbrev pub invariant-loop-event : goal.invariant-loop-event
invariant-loop-event l = record {
  within : l.cursor.at ≤ length l.bytes;
  counting : IsSoundTable l.table → AreTypes l.table (types_of l.params) → length l.bytes ≤ 2 ^ 63 → IsCounting l.table (whole (types_of l.params)) l.bytes (outline l.cursor) l.cursor.at l.counts;
}

abbrev pub decreases-loop-event : goal.decreases-loop-event
decreases-loop-event l = length l.bytes - l.cursor.at
