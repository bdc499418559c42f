use Rattle.answer_correctness.proofs.WholeAnswers.{whole}
use Rattle.answer_correctness.proofs.existence.an_end_has_a_whole_answer.Goals as goal

pub returns : goal.returns
returns c = record { theorem = whole }
