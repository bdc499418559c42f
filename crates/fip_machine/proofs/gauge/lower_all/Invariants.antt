use Rattle.std.proofs.Common.{◌≡◌, ◌<◌, ◌≤◌, ℕ}
use Rattle.std.specs.Prelude.{slice_index_or}
use Rattle.fip_machine.specs.GaugeView.{lowered}
use Rattle.fip_machine.proofs.gauge.lower_all.Given as goal

abbrev pub invariant-loop-k : goal.invariant-loop-k
invariant-loop-k l = record {
  done : (j : ℕ) → j < l.k → slice_index_or l.lowest j 0 ≡ lowered l.seen (slice_index_or l.fn.lowest j 0) (slice_index_or l.held j 0);
  rest : (j : ℕ) → l.k ≤ j → slice_index_or l.lowest j 0 ≡ slice_index_or l.fn.lowest j 0;
}
