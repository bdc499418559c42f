use Rattle.source_safety.proofs.Accepted.{matched_sound}
use Rattle.source_safety.proofs.run_theorems.matched_programs_do_not_get_stuck.Goals as goal

pub returns : goal.returns
returns c = record { theorem = matched_sound }
