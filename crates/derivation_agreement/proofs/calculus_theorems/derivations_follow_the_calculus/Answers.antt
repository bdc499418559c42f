use Rattle.derivation_making.proofs.ownership_agreement.Instances.{programs_agree}
use Rattle.derivation_agreement.proofs.Instances.{all_derived}
use Rattle.derivation_agreement.proofs.calculus_theorems.derivations_follow_the_calculus.Goals as goal

pub returns : goal.returns
returns c = record { calculus = λ p es h. all_derived p 0 p.instances es h; rules = λ p es s h. (programs_agree p s).1 (all_derived p 0 p.instances es h) }
