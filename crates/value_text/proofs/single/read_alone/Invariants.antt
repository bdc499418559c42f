use Rattle.std.proofs.Common.{ℕ, ◌-◌, ◌≤◌, length}
use Rattle.value_text.specs.Reading.{outline, alone}
use Rattle.value_text.specs.Counting.{IsCounting}
use Rattle.value_text.specs.Single.{IsPlaced}
use Rattle.value_text.proofs.single.read_alone.Given as goal

abbrev pub invariant-loop-cursor : goal.invariant-loop-cursor
invariant-loop-cursor l = record {
  within : l.cursor.at ≤ length l.bytes;
  forward : l.at ≤ length l.bytes → l.at ≤ l.cursor.at;
  counting : IsPlaced l.table l.ty l.bytes l.at → (n : ℕ) → IsCounting l.table (alone l.ty l.at n) l.bytes (outline l.cursor) l.cursor.at l.counts;
}

abbrev pub decreases-loop-cursor : goal.decreases-loop-cursor
decreases-loop-cursor l = length l.bytes - l.cursor.at
