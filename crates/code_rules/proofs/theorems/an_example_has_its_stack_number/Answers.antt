use Rattle.code_rules.proofs.ExampleStack.{reversal_stack}
use Rattle.code_rules.proofs.theorems.an_example_has_its_stack_number.Goals as goal

pub returns : goal.returns
returns c = record { theorem = reversal_stack }
