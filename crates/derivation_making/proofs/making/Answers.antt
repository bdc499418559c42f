use Rattle.derivation_making.proofs.Programs.{program_derived, program_lean}
use Rattle.derivation_making.proofs.making.Goals as goal

pub returns : goal.returns
returns c = record { derived = λ p t n z h. program_derived p t n z h; lean = λ p z h. program_lean p z h }
