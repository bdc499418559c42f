use Rattle.std.proofs.Common.{ℕ, ◌-◌, ◌≤◌, length}
use Rattle.value_text.specs.Reading.{outline, alone}
use Rattle.value_text.specs.Building.{IsGoing}
use Rattle.value_text.specs.Single.{IsPlaced}
use Rattle.value_text.proofs.single.build_value.Given as goal

abbrev pub invariant-loop-cursor : goal.invariant-loop-cursor
invariant-loop-cursor l = record {
  within : l.cursor.at ≤ length l.bytes;
  going : IsPlaced l.table l.ty l.bytes l.at → (n : ℕ) → IsGoing l.table (alone l.ty l.at n) l.bytes l.initial.loader (outline l.cursor) l.cursor.at l.words.items l.loader;
}

abbrev pub decreases-loop-cursor : goal.decreases-loop-cursor
decreases-loop-cursor l = length l.bytes - l.cursor.at
