use Rattle.session_correctness.proofs.StoreFacts.{leaves}
use Rattle.session_correctness.proofs.theorems.a_run_leaves_what_it_is_not_given.Goals as goal

pub returns : goal.returns
returns c = record { theorem = leaves }
