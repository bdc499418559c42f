-- A source, a sink or a folder counts how often it failed. The count never falls, and stays at the greatest
-- number of 64 bits, which is `2 ^ 64 - 1`.
use Rattle.std.specs.Prelude.{ℕ, ◌+◌, ◌-◌, ◌^◌, ◌≤◌, min}

-- The count one higher, or as it was where it can't rise.
abbrev pub one_more : ℕ → ℕ
one_more count = min (count + 1) (2 ^ 64 - 1)

-- The count rose from the first number to the second, or is at its greatest: `Rose 3 4` holds, `Rose 3 3` doesn't,
-- and a count that is at `2 ^ 64 - 1` is always taken to have risen.
abbrev pub Rose : ℕ → ℕ → Type 0
Rose before now = one_more before ≤ now
