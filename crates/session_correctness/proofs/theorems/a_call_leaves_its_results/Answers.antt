use Rattle.session_correctness.proofs.StoreFacts.{holds_results}
use Rattle.session_correctness.proofs.theorems.a_call_leaves_its_results.Goals as goal

pub returns : goal.returns
returns c = record { theorem = holds_results }
