use Rattle.std.proofs.Common.{◌≡◌, ◌<◌, ◌≤◌, ℕ, max}
use Rattle.std.specs.Prelude.{slice_index_or}
use Rattle.fip_machine.proofs.gauge.raise_all.Given as goal

abbrev pub invariant-loop-k : goal.invariant-loop-k
invariant-loop-k l = record {
  done : (j : ℕ) → j < l.k → slice_index_or l.highest j 0 ≡ max (slice_index_or l.fn.highest j 0) (slice_index_or l.held j 0);
  rest : (j : ℕ) → l.k ≤ j → slice_index_or l.highest j 0 ≡ slice_index_or l.fn.highest j 0;
}
