use Rattle.lowering_relation.proofs.Deciding.{digit_is_laid}
use Rattle.lowering_relation.proofs.layout_theorems.an_example_with_a_let_is_laid.Goals as goal

pub returns : goal.returns
returns c = record { theorem = digit_is_laid }
