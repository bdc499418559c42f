use Rattle.source_safety.proofs.Accepted.{accepted_in_place}
use Rattle.source_safety.proofs.run_theorems.accepted_sources_run_in_place.Goals as goal

pub returns : goal.returns
returns c = record { theorem = accepted_in_place }
