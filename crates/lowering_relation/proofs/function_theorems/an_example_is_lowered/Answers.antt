use Rattle.lowering_relation.proofs.LoweredReversing.{rev_is_lowered}
use Rattle.lowering_relation.proofs.function_theorems.an_example_is_lowered.Goals as goal

pub returns : goal.returns
returns c = record { theorem = rev_is_lowered }
