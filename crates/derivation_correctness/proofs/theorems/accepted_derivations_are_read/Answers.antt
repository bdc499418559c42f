use Rattle.derivation_correctness.proofs.Whole as W
use Rattle.derivation_correctness.proofs.theorems.accepted_derivations_are_read.Goals as goal

pub returns : goal.returns
returns c = record { limits = W.keeps_limits; read = W.is_read }
