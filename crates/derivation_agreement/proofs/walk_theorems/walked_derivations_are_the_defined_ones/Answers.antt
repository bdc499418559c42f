use Rattle.derivation_agreement.proofs.WalkWhole.{program_is}
use Rattle.derivation_agreement.proofs.walk_theorems.walked_derivations_are_the_defined_ones.Goals as goal

pub returns : goal.returns
returns c = record { made = λ p needs es same an az h k. program_is p needs es same an az h k }
