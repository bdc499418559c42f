use Rattle.command_answers.specs.command_library.command_words.Words.{Run}
use Rattle.answer_correctness.proofs.SomeAnswer.{some_answer}
use Rattle.answer_correctness.proofs.Shown.{settled}
use Rattle.answer_correctness.proofs.runs.run_has_one_answer.Goals as goal

pub returns : goal.returns
returns c = record { some = some_answer; one = λ files input r d e h k. settled files input (Run r) d e (λ m. m) h k }
