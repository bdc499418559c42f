use Rattle.derivation_correctness.proofs.Whole.{ready}
use Rattle.derivation_correctness.proofs.theorems.accepted_programs_are_ready.Goals as goal

pub returns : goal.returns
returns c = record { ready = λ source p needs h e. ready source p needs h e }
