use Rattle.in_place_safety.proofs.Strong.{fip_calls_fip}
use Rattle.in_place_safety.proofs.run_theorems.derived_instances_call_fip_ones.Goals as goal

pub returns : goal.returns
returns c = record { theorem = fip_calls_fip }
