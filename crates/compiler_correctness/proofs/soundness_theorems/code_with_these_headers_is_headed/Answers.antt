use Rattle.compiler_correctness.proofs.SoundnessFunctions.{headed_in_memory}
use Rattle.compiler_correctness.proofs.soundness_theorems.code_with_these_headers_is_headed.Goals as goal

pub returns : goal.returns
returns c = record { theorem = λ program members code found types functions. headed_in_memory program members code found types functions }
