use Rattle.source_safety.proofs.Accepted.{credited_checked}
use Rattle.source_safety.proofs.run_theorems.credited_programs_are_checked.Goals as goal

pub returns : goal.returns
returns c = record { theorem = credited_checked }
