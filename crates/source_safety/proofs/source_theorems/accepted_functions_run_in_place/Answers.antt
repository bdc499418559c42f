use Rattle.source_safety.proofs.Functions.{function_in_place}
use Rattle.source_safety.proofs.source_theorems.accepted_functions_run_in_place.Goals as goal

pub returns : goal.returns
returns c = record { theorem = function_in_place }
