use Rattle.compiler_correctness.proofs.SoundnessWhole.{instance_derived}
use Rattle.compiler_correctness.proofs.soundness_theorems.accepted_instances_are_derived.Goals as goal

pub returns : goal.returns
returns c = record { theorem = λ source program code i instance accepted headed there has. instance_derived source program accepted code headed i instance there has }
