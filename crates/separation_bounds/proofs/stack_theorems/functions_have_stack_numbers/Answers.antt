use Rattle.separation_bounds.proofs.Numbers.{has_stack}
use Rattle.separation_bounds.proofs.stack_theorems.functions_have_stack_numbers.Goals as goal

pub returns : goal.returns
returns c = record { theorem = has_stack }
