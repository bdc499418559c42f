use Rattle.lowering_soundness.proofs.Ranging.{ranged}
use Rattle.lowering_soundness.proofs.row_theorems.numbers_are_in_range.Goals as goal

pub returns : goal.returns
returns c = record { theorem = λ c st wd fip f d shares laid builds maps i x is. ranged c st f maps wd shares fip d laid builds i x is }
