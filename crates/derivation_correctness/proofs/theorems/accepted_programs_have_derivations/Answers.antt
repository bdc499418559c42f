use Rattle.derivation_correctness.proofs.Whole as W
use Rattle.derivation_correctness.proofs.theorems.accepted_programs_have_derivations.Goals as goal

pub returns : goal.returns
returns c = record { derived = W.derived; lean = W.lean }
