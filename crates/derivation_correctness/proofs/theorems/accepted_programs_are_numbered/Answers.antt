use Rattle.derivation_correctness.proofs.Whole as W
use Rattle.derivation_correctness.proofs.theorems.accepted_programs_are_numbered.Goals as goal

pub returns : goal.returns
returns c = record { numbered = W.numbered; filled = W.is_filled; sized = W.are_sized; unbroken = W.unbroken }
