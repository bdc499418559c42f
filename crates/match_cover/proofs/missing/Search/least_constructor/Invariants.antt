use Rattle.match_knowledge.specs.View.{rows}
use Rattle.match_cover.specs.Missing.{placed}
use Rattle.match_cover.specs.MissingView.{levels}
use Rattle.match_cover.specs.MissingSearch.{NoTag}
use Rattle.match_cover.proofs.missing.Search.least_constructor.Given as goal

abbrev pub invariant-loop-c : goal.invariant-loop-c
invariant-loop-c l = NoTag l.self.types.now (rows l.self.rows.now) (placed (levels l.at)) l.constructors l.c
