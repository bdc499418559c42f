use Rattle.answer_correctness.proofs.EmptySource.{code_of_it, file_sound}
use Rattle.answer_correctness.proofs.empty.an_empty_program_has_a_code.Goals as goal

pub returns : goal.returns
returns c = record { code = code_of_it; file = file_sound }
