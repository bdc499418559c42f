use Rattle.match_knowledge.specs.Known.{row_tests}
use Rattle.match_knowledge.specs.View.{rows, known}
use Rattle.match_cover.proofs.trees.+grow.Given as goal

abbrev pub decreases-grow : goal.decreases-grow
decreases-grow a = row_tests (rows a.ps.now) (known a.k.now)
