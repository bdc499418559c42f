use Rattle.lowering_simulation.proofs.Patterns.{well_matched}
use Rattle.lowering_simulation.proofs.evaluation_theorems.typed_patterns_are_of_their_types.Goals as goal

pub returns : goal.returns
returns c = record { theorem = well_matched }
