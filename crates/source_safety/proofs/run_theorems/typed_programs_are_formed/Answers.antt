use Rattle.source_safety.proofs.Formed.{typed_is_formed}
use Rattle.source_safety.proofs.run_theorems.typed_programs_are_formed.Goals as goal

pub returns : goal.returns
returns c = record { theorem = typed_is_formed }
