use Rattle.std.proofs.Common.{◌≡◌, ◌≤◌, ◌+◌, drop}
use Rattle.kind_domain.specs.Busy.{busy_in}
use Rattle.kind_domain.specs.Views.{kinds_of}
use Rattle.kind_domain.proofs.asked.count_known.Given as goal

abbrev pub invariant-loop-one : goal.invariant-loop-one
invariant-loop-one l = record {
  few : l.busy ≤ l.one-index;
  rest : l.busy + busy_in (kinds_of (drop l.one-index l.known)) ≡ busy_in (kinds_of l.known);
}
