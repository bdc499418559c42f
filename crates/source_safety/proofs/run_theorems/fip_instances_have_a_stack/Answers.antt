use Rattle.source_safety.proofs.Accepted.{accepted_stack}
use Rattle.source_safety.proofs.run_theorems.fip_instances_have_a_stack.Goals as goal

pub returns : goal.returns
returns c = record { theorem = accepted_stack }
