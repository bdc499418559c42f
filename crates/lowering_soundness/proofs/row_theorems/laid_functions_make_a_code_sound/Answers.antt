use Rattle.lowering_soundness.proofs.Joined.{sound_joined}
use Rattle.lowering_soundness.proofs.row_theorems.laid_functions_make_a_code_sound.Goals as goal

pub returns : goal.returns
returns c = record { theorem = λ c st p wd w all shares callees tables fips right derived limits. sound_joined c st p wd w all shares callees tables fips right derived limits }
