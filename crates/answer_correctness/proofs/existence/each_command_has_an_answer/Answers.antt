use Rattle.answer_correctness.proofs.EachCommand.{command_answered}
use Rattle.answer_correctness.proofs.existence.each_command_has_an_answer.Goals as goal

pub returns : goal.returns
returns c = record { theorem = command_answered }
