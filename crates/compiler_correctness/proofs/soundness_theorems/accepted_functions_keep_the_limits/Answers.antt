use Rattle.compiler_correctness.proofs.SoundnessWhole.{function_limits}
use Rattle.compiler_correctness.proofs.soundness_theorems.accepted_functions_keep_the_limits.Goals as goal

pub returns : goal.returns
returns c = record { theorem = λ source program code i n instance f accepted headed there number is maps. function_limits source program accepted code headed i n instance f there number is maps }
