use Rattle.tree_refinement.proofs.Values.{one_value}
use Rattle.tree_refinement.proofs.agreement_theorems.a_word_stands_for_one_value.Goals as goal

pub returns : goal.returns
returns c = record { theorem = one_value }
