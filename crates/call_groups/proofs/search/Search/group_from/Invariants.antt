use Rattle.std.proofs.Common.{◌≡◌, ◌≤◌, ◌++◌, length, drop}
use Rattle.call_groups.specs.Search.{unmet, group_all}
use Rattle.call_groups.proofs.search.Search.group_from.Given as goal

abbrev pub invariant-loop-at : goal.invariant-loop-at
invariant-loop-at l = record {
  met : unmet l.self.standings.items ≤ unmet l.initial.self.standings.items;
  visits : l.self.visits.items ≡ l.initial.self.visits.items;
  pieces : l.self.pieces.items ≡ l.initial.self.pieces.items;
  path : l.self.path.items ≡ l.initial.self.path.items;
  group : l.group ≡ length l.initial.self.order.items;
  standings : group_all l.group (drop l.at l.self.path.items) l.self.standings.items
      ≡ group_all l.group (drop l.place l.initial.self.path.items) l.initial.self.standings.items;
  order : l.self.order.items ++ drop l.at l.self.path.items
      ≡ l.initial.self.order.items ++ drop l.place l.initial.self.path.items;
}
