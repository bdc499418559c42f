use Rattle.std.proofs.Common.{◌≡◌, ◌+◌, drop, map}
use Rattle.match_knowledge.specs.View.{patterns_of}
use Rattle.match_cover.specs.PatternView.{erased, parts_nodes}
use Rattle.match_cover.proofs.shapes.+nodes.Given as goal

abbrev pub invariant-all_left-loop-pattern : goal.invariant-all_left-loop-pattern
invariant-all_left-loop-pattern l = l.left + parts_nodes (patterns_of (map erased l.patterns)) ≡ l.most + parts_nodes (patterns_of (map erased (drop l.pattern-index l.patterns)))
