use Rattle.command_answers.proofs.CodeOf.{code_of}
use Rattle.answer_correctness.proofs.theorems.a_code_of_a_source_is_one_of_its_program.Goals as goal

pub returns : goal.returns
returns c = record { theorem = λ source code h. code_of source code h }
