use Rattle.compiler_correctness.proofs.SoundnessFunctions.{sound_tables}
use Rattle.compiler_correctness.proofs.soundness_theorems.accepted_code_has_sound_tables.Goals as goal

pub returns : goal.returns
returns c = record { theorem = λ source program code typed headed. sound_tables source program code typed headed }
