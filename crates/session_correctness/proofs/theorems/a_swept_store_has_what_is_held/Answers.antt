use Rattle.session_correctness.proofs.StoreFacts.{holds_swept}
use Rattle.session_correctness.proofs.theorems.a_swept_store_has_what_is_held.Goals as goal

pub returns : goal.returns
returns c = record { theorem = holds_swept }
