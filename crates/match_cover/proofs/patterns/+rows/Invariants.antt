use Rattle.std.proofs.Common.{◌≡◌, ◌++◌, drop, map}
use Rattle.match_knowledge.specs.View.{row}
use Rattle.match_cover.specs.PatternView.{erased}
use Rattle.match_cover.proofs.patterns.+rows.Given as goal

abbrev pub invariant-rows_of-loop-pattern : goal.invariant-rows_of-loop-pattern
invariant-rows_of-loop-pattern l = map row l.made.items ++ map erased (drop l.pattern-index l.patterns) ≡ map erased l.patterns
