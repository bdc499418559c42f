use Rattle.std.proofs.Common.{◌≡◌, ◌++◌, drop}
use Rattle.match_knowledge.specs.View.{rows}
use Rattle.match_cover.specs.MissingView.{lent_rows}
use Rattle.match_cover.proofs.missing.all_of.Given as goal

abbrev pub invariant-loop-pattern : goal.invariant-loop-pattern
invariant-loop-pattern l = lent_rows l.here.items ++ rows (drop l.pattern-index l.patterns) ≡ rows l.patterns
