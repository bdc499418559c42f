use Rattle.compiler_correctness.proofs.SoundnessWhole.{laid_out_is_sound}
use Rattle.compiler_correctness.proofs.soundness_theorems.lowered_accepted_code_is_sound.Goals as goal

pub returns : goal.returns
returns c = record { theorem = λ source program code accepted headed laid. laid_out_is_sound source program accepted code headed laid }
