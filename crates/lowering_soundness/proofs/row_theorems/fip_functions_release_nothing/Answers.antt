use Rattle.lowering_soundness.proofs.Grouped.{releases_nothing}
use Rattle.lowering_soundness.proofs.row_theorems.fip_functions_release_nothing.Goals as goal

pub returns : goal.returns
returns c = record { theorem = λ c st p all fips n f there fip i x is. releases_nothing c st p all fips n f there fip i x is }
