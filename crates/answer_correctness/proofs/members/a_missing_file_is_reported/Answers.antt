use Rattle.answer_correctness.proofs.Coming.{missing}
use Rattle.answer_correctness.proofs.members.a_missing_file_is_reported.Goals as goal

pub returns : goal.returns
returns c = record { theorem = missing }
