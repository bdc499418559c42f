use Rattle.std.proofs.Common.{◌≡◌, ℕ, length}
use Rattle.kind_domain.specs.Owners.{number_at}
use Rattle.kind_domain.proofs.kinds.numbers.Given as goal

abbrev pub invariant-loop-number : goal.invariant-loop-number
invariant-loop-number l = record {
  long : length l.items.items ≡ l.number;
  same : (n : ℕ) → number_at l.items.items n ≡ n;
}
