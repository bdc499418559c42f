use Rattle.session_correctness.proofs.StoreFacts.{holds_others}
use Rattle.session_correctness.proofs.theorems.a_call_without_a_value_leaves_what_is_held.Goals as goal

pub returns : goal.returns
returns c = record { theorem = holds_others }
