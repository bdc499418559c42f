use Rattle.command_answers.specs.command_library.command_words.Words.{Verify, Upgrade}
use Rattle.answer_correctness.proofs.SomeAnswer.{some_verify, some_upgrade}
use Rattle.answer_correctness.proofs.Shown.{settled}
use Rattle.answer_correctness.proofs.runs.codes_have_one_answer.Goals as goal

pub returns : goal.returns
returns c = record {
  verified = some_verify;
  one = λ files input file d e h k. settled files input (Verify file) d e (λ m. m) h k;
  upgraded = some_upgrade;
  one_upgrade = λ files input file out d e h k. settled files input (Upgrade file out) d e (λ m. m) h k;
}
