use Rattle.command_answers.proofs.command_library.command_source.Once.{refused_once, refused_not_ready}
use Rattle.answer_correctness.proofs.EachCommand.{source_answered}
use Rattle.answer_correctness.proofs.existence.each_source_is_refused_or_ready.Goals as goal

pub returns : goal.returns
returns c = record { some = source_answered; apart = refused_not_ready; one = refused_once }
