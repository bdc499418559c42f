use Rattle.answer_correctness.proofs.PlainSource.{plain_code}
use Rattle.answer_correctness.proofs.existence.a_plain_source_has_a_code.Goals as goal

pub returns : goal.returns
returns c = record { theorem = plain_code }
