use Rattle.std.proofs.Common.{◌≡◌, ◌≤◌, ◌<◌, ℕ, take}
use Rattle.ownership_calculus.specs.Terms.{given}
use Rattle.derivation_check.proofs.lists.front_below.Given as goal

abbrev pub invariant-loop-number : goal.invariant-loop-number
invariant-loop-number l = record {
  place : l.place ≡ l.number-index;
  low : (x : ℕ) → l.below ≤ x → given x (take l.number-index l.numbers) ≡ 0;
}
