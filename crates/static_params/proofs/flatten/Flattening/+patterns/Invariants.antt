use Rattle.std.proofs.Common.{◌≡◌, ◌++◌, map, drop}
use Rattle.fip_base.specs.CoreView as V
use Rattle.fip_trees.specs.TreeView as W
use Rattle.static_params.specs.FlatView.{IsMaking, Stays, making, pattern_in}
use Rattle.static_params.proofs.flatten.Flattening.+patterns.Given as goal

abbrev pub invariant-patterns-loop-pattern : goal.invariant-patterns-loop-pattern
invariant-patterns-loop-pattern l = record {
  stays : IsMaking l.initial.self → Stays l.initial.self l.self;
  row : IsMaking l.initial.self → map W.pattern l.patterns.items ++ map (pattern_in (making l.initial.self)) (map V.pattern (drop l.pattern-index l.list)) ≡ map (pattern_in (making l.initial.self)) (map V.pattern l.list);
}
