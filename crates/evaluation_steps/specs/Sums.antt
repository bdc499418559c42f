-- Ints of 64 bits that can be incremented: all but the greatest.
use Rattle.std.specs.Prelude.{◌≢◌, ℤ, pos, ◌+ℤ◌, FitsSigned}
use Rattle.std.specs.Int.{w64}

abbrev pub greatest : ℤ
greatest = pos 9223372036854775807

abbrev pub incremented : ℤ → ℤ
incremented x = x +ℤ pos 1

pub record CanIncrement (x : ℤ) : Type 0 where
  pub fits : FitsSigned w64 x
  pub below : x ≢ greatest
