use Rattle.std.proofs.Common.{◌≡◌, ◌≤◌, ◌+◌, drop}
use Rattle.kind_domain.specs.Busy.{busy_in}
use Rattle.kind_domain.proofs.asked.count_kinds.Given as goal

abbrev pub invariant-loop-kind : goal.invariant-loop-kind
invariant-loop-kind l = record {
  few : l.busy ≤ l.kind-index;
  rest : l.busy + busy_in (drop l.kind-index l.kinds) ≡ busy_in l.kinds;
}
