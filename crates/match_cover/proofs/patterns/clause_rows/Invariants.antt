use Rattle.std.proofs.Common.{◌≡◌, ◌++◌, drop, map}
use Rattle.match_knowledge.specs.View.{row}
use Rattle.match_cover.specs.PatternView.{erased, pattern_of, match_patterns}
use Rattle.match_cover.proofs.patterns.clause_rows.Given as goal

abbrev pub invariant-loop-clause : goal.invariant-loop-clause
invariant-loop-clause l = map row l.made.items ++ map erased (map pattern_of (drop l.clause-index l.others)) ≡ match_patterns l.first l.others
