use Rattle.machine_correctness.proofs.Flat.{gauge_flat}
use Rattle.machine_correctness.proofs.run_theorems.a_gauge_of_a_fip_entry_is_flat.Goals as goal

pub returns : goal.returns
returns c = record { theorem = gauge_flat }
