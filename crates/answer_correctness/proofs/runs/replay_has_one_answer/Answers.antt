use Rattle.command_answers.specs.command_library.command_words.Words.{Replay}
use Rattle.answer_correctness.proofs.SomeAnswer.{some_replay}
use Rattle.answer_correctness.proofs.Shown.{settled}
use Rattle.answer_correctness.proofs.runs.replay_has_one_answer.Goals as goal

pub returns : goal.returns
returns c = record { some = some_replay; one = λ files input trace step d e h k. settled files input (Replay trace step) d e (λ m. m) h k }
