-- 1 where something holds and 0 where it doesn't; and the greater of two numbers.
use Rattle.std.specs.Prelude.{ℕ, Bool, true, false, nat_lt}
use Rattle.std.specs.Prelude.{if◌then◌else◌}

-- 1 where it holds
abbrev pub one_if : Bool → ℕ
one_if true = 1
one_if false = 0

abbrev pub greater : ℕ → ℕ → ℕ
greater m n = if nat_lt m n then n else m
