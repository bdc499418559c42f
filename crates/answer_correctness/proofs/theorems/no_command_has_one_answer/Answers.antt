use Rattle.answer_correctness.proofs.Shown.{unknown_words}
use Rattle.answer_correctness.proofs.theorems.no_command_has_one_answer.Goals as goal

pub returns : goal.returns
returns c = record { theorem = λ words files input h none a. unknown_words files input h words none a }
