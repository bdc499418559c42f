use Rattle.match_knowledge.specs.View.{rows}
use Rattle.match_cover.specs.Missing.{placed}
use Rattle.match_cover.specs.MissingView.{levels}
use Rattle.match_cover.specs.MissingSearch.{NoNumber}
use Rattle.match_cover.proofs.missing.Search.least_number.Given as goal

abbrev pub invariant-loop-n : goal.invariant-loop-n
invariant-loop-n l = NoNumber l.self.types.now (rows l.self.rows.now) (placed (levels l.at)) l.n
