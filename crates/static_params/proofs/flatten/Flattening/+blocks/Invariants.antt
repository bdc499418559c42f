use Rattle.std.proofs.Common.{◌≡◌, ◌++◌, map, drop}
use Rattle.fip_base.specs.CoreView as V
use Rattle.fip_trees.specs.TreeView as W
use Rattle.static_params.specs.FlatView.{IsMaking, Stays, making, bound_in, case_in}
use Rattle.static_params.proofs.flatten.Flattening.+blocks.Given as goal

abbrev pub invariant-clauses-loop-clause : goal.invariant-clauses-loop-clause
invariant-clauses-loop-clause l = record {
  stays : IsMaking l.initial.self → Stays l.initial.self l.self;
  row : IsMaking l.initial.self → map W.clause l.clauses.items ++ map (case_in (making l.initial.self)) (map V.clause (drop l.clause-index l.list)) ≡ map (case_in (making l.initial.self)) (map V.clause l.list);
}

abbrev pub invariant-bindings-loop-binding : goal.invariant-bindings-loop-binding
invariant-bindings-loop-binding l = record {
  stays : IsMaking l.initial.self → Stays l.initial.self l.self;
  row : IsMaking l.initial.self → map W.binding l.bindings.items ++ map (bound_in (making l.initial.self)) (map V.binding (drop l.binding-index l.list)) ≡ map (bound_in (making l.initial.self)) (map V.binding l.list);
}
