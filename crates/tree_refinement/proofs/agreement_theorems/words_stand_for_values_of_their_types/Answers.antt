use Rattle.tree_refinement.proofs.Values.{words_types}
use Rattle.tree_refinement.proofs.agreement_theorems.words_stand_for_values_of_their_types.Goals as goal

pub returns : goal.returns
returns c = record { theorem = words_types }
