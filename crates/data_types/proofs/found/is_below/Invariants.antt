use Rattle.std.proofs.Common.{◌≡◌, ◌<◌, ℕ, true}
use Rattle.data_types.specs.Marks.{bit}
use Rattle.data_types.proofs.found.is_below.Given as goal

abbrev pub invariant-loop-place : goal.invariant-loop-place
invariant-loop-place l = (k : ℕ) → k < l.place → bit l.set k ≡ true → bit l.other k ≡ true
