use Rattle.lowering_soundness.proofs.Grouped.{waits_for_none}
use Rattle.lowering_soundness.proofs.row_theorems.fip_functions_wait_for_no_group_member.Goals as goal

pub returns : goal.returns
returns c = record { theorem = λ c st p all right n f there fip i callee calls group. waits_for_none c st p all right n f there fip i callee calls group }
