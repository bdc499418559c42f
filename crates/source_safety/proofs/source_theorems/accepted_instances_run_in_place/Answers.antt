use Rattle.source_safety.proofs.Functions.{instance_in_place}
use Rattle.source_safety.proofs.source_theorems.accepted_instances_run_in_place.Goals as goal

pub returns : goal.returns
returns c = record { theorem = instance_in_place }
