use Rattle.lowering_soundness.proofs.Whole.{sound}
use Rattle.lowering_soundness.proofs.row_theorems.functions_make_a_code_sound.Goals as goal

pub returns : goal.returns
returns c = record { theorem = sound }
