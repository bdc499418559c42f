use Rattle.std.proofs.Common.{ap}
use Rattle.command_answers.specs.command_library.machine_semantics.Runs.{Value}
use Rattle.command_answers.proofs.CodeOf.{some_calls}
use Rattle.answer_correctness.proofs.theorems.a_code_holds_what_its_program_does.Goals as goal

pub returns : goal.returns
returns c = record {
  stacks = λ p code is i n m f k. is.stacks is.members is.found i n m f k;
  peak = λ p code before waits i n vs calls frames first last words left steps is kinds h ends.
      ap (λ s. s.frames) (is.peaks before waits kinds i n vs calls frames first h (some_calls before code first calls words last left steps ends) (Value words) last left steps ends);
}
