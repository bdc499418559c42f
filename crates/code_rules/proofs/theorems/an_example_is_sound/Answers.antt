use Rattle.code_rules.proofs.Examples.{reversal_sound}
use Rattle.code_rules.proofs.theorems.an_example_is_sound.Goals as goal

pub returns : goal.returns
returns c = record { theorem = reversal_sound }
