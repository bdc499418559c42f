use Rattle.lowering_relation.proofs.LaidReversing.{rev_is_laid}
use Rattle.lowering_relation.proofs.layout_theorems.an_example_is_laid.Goals as goal

pub returns : goal.returns
returns c = record { theorem = rev_is_laid }
