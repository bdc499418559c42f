use Rattle.compiler_correctness.proofs.SoundnessWhole.{laid_is_sound}
use Rattle.compiler_correctness.proofs.soundness_theorems.laid_accepted_code_is_sound.Goals as goal

pub returns : goal.returns
returns c = record { theorem = λ source program code st accepted headed all maps. laid_is_sound source program accepted code st headed all maps }
