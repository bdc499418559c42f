use Rattle.source_safety.proofs.Accepted.{matched_well_typed}
use Rattle.source_safety.proofs.run_theorems.matched_programs_are_well_typed.Goals as goal

pub returns : goal.returns
returns c = record { theorem = matched_well_typed }
