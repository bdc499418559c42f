use Rattle.std.proofs.Common.{◌≡◌, ◌+◌, drop, map}
use Rattle.match_cover.specs.PatternView.{erased, pattern_of}
use Rattle.match_cover.specs.Shapes.{total_nodes}
use Rattle.match_cover.proofs.shapes.clauses_left.Given as goal

abbrev pub invariant-loop-clause : goal.invariant-loop-clause
invariant-loop-clause l = l.left + total_nodes (map erased (map pattern_of l.clauses)) ≡ l.most + total_nodes (map erased (map pattern_of (drop l.clause-index l.clauses)))
