use Rattle.lowering_soundness.proofs.Numbers.{has_its_stack}
use Rattle.lowering_soundness.proofs.stack_theorems.alike_functions_have_the_stack_numbers.Goals as goal

pub returns : goal.returns
returns c = record { theorem = has_its_stack }
