use Rattle.match_knowledge.specs.Known.{row_tests}
use Rattle.match_knowledge.specs.View.{rows, known}
use Rattle.match_knowledge.proofs.unmatched.+left.Given as goal

abbrev pub decreases-left : goal.decreases-left
decreases-left a = row_tests (rows a.ps.now) (known a.k.now)
