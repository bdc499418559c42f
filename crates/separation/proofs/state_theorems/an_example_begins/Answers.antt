use Rattle.separation.proofs.Examples.{reversal_starts}
use Rattle.separation.proofs.state_theorems.an_example_begins.Goals as goal

pub returns : goal.returns
returns c = record { theorem = reversal_starts }
