use Rattle.lowering_soundness.proofs.Functions.{function_kept}
use Rattle.lowering_soundness.proofs.row_theorems.functions_break_no_rule.Goals as goal

pub returns : goal.returns
returns c = record { theorem = λ c f st wd w fip d shares callees laid num typed params derived i. function_kept c f st wd w fip shares callees d laid num typed params derived i }
