-- How long a run may take: its steps so far, and a bound on the instructions of each function.
--
-- The reversal of a list has six instructions, so a run of it with three calls takes at most 18 steps.
use Rattle.std.specs.Prelude.{◌≡◌, ◌≤◌, ℕ, Some, length}
use Rattle.separation.specs.machine_semantics.Runs.{Run, Going, Over}
use Rattle.separation.specs.cell_code.Plain.{PlainFunction, PlainCode, function_at}

-- the steps that were done
abbrev pub steps_of : Run → ℕ
steps_of (Going s left steps) = steps
steps_of (Over e last left steps) = steps

-- No function of the code has more instructions.
abbrev pub AreAtMost : PlainCode → ℕ → Type 0
AreAtMost c most = (n : ℕ) (f : PlainFunction) → function_at c n ≡ Some f → length f.instrs ≤ most
