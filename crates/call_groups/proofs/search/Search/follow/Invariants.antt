use Rattle.std.proofs.Common.{[], ◌∷◌, ◌++◌}
use Rattle.call_groups.specs.CallGraph.{rows}
use Rattle.call_groups.specs.Search.{IsSound, KeepsRest, visit}
use Rattle.call_groups.proofs.search.Search.follow.Given as goal

abbrev pub invariant-loop-at : goal.invariant-loop-at
invariant-loop-at l = record {
  sound : IsSound (rows l.calls) l.self (l.self.visits.items ++ visit l.fn.visit.function l.fn.visit.place l.at ∷ []);
  same : KeepsRest l.initial.self l.self;
}
