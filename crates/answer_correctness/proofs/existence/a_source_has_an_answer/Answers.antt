use Rattle.answer_correctness.proofs.SomeEnd.{some_end}
use Rattle.answer_correctness.proofs.existence.a_source_has_an_answer.Goals as goal

pub returns : goal.returns
returns c = record { theorem = some_end }
