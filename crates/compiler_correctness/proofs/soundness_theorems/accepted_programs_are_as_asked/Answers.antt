use Rattle.compiler_correctness.proofs.SoundTypes.{typed_sound}
use Rattle.compiler_correctness.proofs.SoundnessWhole.{is_asked}
use Rattle.compiler_correctness.proofs.soundness_theorems.accepted_programs_are_as_asked.Goals as goal

pub returns : goal.returns
returns c = record { theorem = λ source program accepted. is_asked source program accepted; sound = λ source program typed. typed_sound source program typed }
