use Rattle.std.proofs.Common.{◌<◌, ℕ}
use Rattle.call_groups.specs.CallGraph.{rows}
use Rattle.call_groups.specs.Search.{IsIdle, IsNew}
use Rattle.call_groups.proofs.search.partition_of.Given as goal

abbrev pub invariant-loop-function : goal.invariant-loop-function
invariant-loop-function l = record {
  idle : IsIdle (rows l.calls) l.search;
  met : (f : ℕ) → f < l.function → IsNew l.search.standings.items f → ⊥;
}
