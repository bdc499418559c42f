use Rattle.command_session.proofs.Serving.{served}
use Rattle.command_session.proofs.theorems.what_is_made_of_a_source_serves_its_sessions.Goals as goal

pub returns : goal.returns
returns c = record { theorem = served }
