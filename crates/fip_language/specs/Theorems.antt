-- The words in which the theorems of the definitions are said. The theorems are the contracts of src/theorems.rt.
-- For instance: an evaluation with 5 calls that gives a value leaves at most 5 of them, AtMost 5.
use Rattle.std.specs.Prelude.{ℕ, ◌≤◌}
use Rattle.fip_language.specs.Meaning.{Answer, Gives, Trap, Out, Deep, Stuck}

-- where the answer gives values, it leaves at most so many calls
abbrev pub AtMost : ℕ → Answer → Type 0
AtMost k (Gives vs left) = left ≤ k
AtMost k (Trap kind line col) = Unit {0}
AtMost k Out = Unit {0}
AtMost k Deep = Unit {0}
AtMost k Stuck = Unit {0}
