use Rattle.std.proofs.Common.{◌≡◌, ◌<◌, ◌≤◌, ◌-◌, ℕ, length, Some}
use Rattle.std.specs.Prelude.{slice_get}
use Rattle.code_verify.specs.declared.walk.DropType.{DropType}
use Rattle.code_verify.proofs.verified.place_of.Given as goal

abbrev pub invariant-loop-low : goal.invariant-loop-low
invariant-loop-low l = record {
  order : l.low ≤ l.high;
  within : l.high ≤ length l.drops;
  before : (j : ℕ) (d : DropType) → j < l.low → slice_get l.drops j ≡ Some d → d.at < l.at;
  following : (j : ℕ) (d : DropType) → l.high ≤ j → slice_get l.drops j ≡ Some d → l.at ≤ d.at;
}

abbrev pub decreases-loop-low : goal.decreases-loop-low
decreases-loop-low l = l.high - l.low
