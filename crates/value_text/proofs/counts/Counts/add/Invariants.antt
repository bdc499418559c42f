use Rattle.std.proofs.Common.{◌≡◌, ℕ, ◌+◌, ◌-◌, ◌<◌, ◌≤◌, ◌^◌, get_or}
use Rattle.std.specs.Prelude.{min}
use Rattle.value_text.proofs.counts.Counts.add.Given as goal

abbrev pub invariant-loop-k : goal.invariant-loop-k
invariant-loop-k l = record {
  done : (i : ℕ) → i < l.k → get_or l.self.numbers i 0 ≡ min (get_or l.initial.self.numbers i 0 + get_or l.other.numbers i 0) (2 ^ 64 - 1);
  rest : (i : ℕ) → l.k ≤ i → get_or l.self.numbers i 0 ≡ get_or l.initial.self.numbers i 0;
}
