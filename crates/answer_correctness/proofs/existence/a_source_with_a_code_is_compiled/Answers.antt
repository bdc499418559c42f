use Rattle.answer_correctness.proofs.SomeEnd.{compile_ends}
use Rattle.answer_correctness.proofs.existence.a_source_with_a_code_is_compiled.Goals as goal

pub returns : goal.returns
returns c = record { theorem = compile_ends }
