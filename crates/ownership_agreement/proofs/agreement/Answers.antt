use Rattle.ownership_agreement.proofs.Instances.{agrees, programs_agree}
use Rattle.ownership_agreement.proofs.agreement.Goals as goal

pub returns : goal.returns
returns c = record { theorem = λ p i d r s. agrees p i d r s; programs = λ p s. programs_agree p s }
