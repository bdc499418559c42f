use Rattle.std.proofs.Common.{◌≡◌, ◌++◌, drop, map}
use Rattle.match_cover.specs.FoundView.{found_binders}
use Rattle.match_cover.specs.PatternView.{joined, pattern_binders}
use Rattle.match_cover.proofs.shapes.+binders.Given as goal

abbrev pub invariant-find_all_binders-loop-pattern : goal.invariant-find_all_binders-loop-pattern
invariant-find_all_binders-loop-pattern l = found_binders l.found.items ++ joined (map pattern_binders (drop l.pattern-index l.patterns)) ≡ found_binders l.initial.found.items ++ joined (map pattern_binders l.patterns)
