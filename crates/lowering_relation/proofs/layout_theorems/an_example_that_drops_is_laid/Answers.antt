use Rattle.lowering_relation.proofs.Picking.{pick_is_laid}
use Rattle.lowering_relation.proofs.layout_theorems.an_example_that_drops_is_laid.Goals as goal

pub returns : goal.returns
returns c = record { theorem = pick_is_laid }
