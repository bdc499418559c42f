use Rattle.call_groups.specs.CallGraph.{rows}
use Rattle.call_groups.specs.Search.{left, IsSound, IsNew, Further}
use Rattle.call_groups.proofs.search.Search.from.Given as goal

abbrev pub invariant-loop-visit : goal.invariant-loop-visit
invariant-loop-visit l = record {
  sound : IsSound (rows l.calls) l.self l.self.visits.items;
  met : IsNew l.self.standings.items l.function → ⊥;
  further : Further l.fn.self.standings.items l.self.standings.items;
}

abbrev pub decreases-loop-visit : goal.decreases-loop-visit
decreases-loop-visit l = left l.self.standings.items l.self.visits.items
