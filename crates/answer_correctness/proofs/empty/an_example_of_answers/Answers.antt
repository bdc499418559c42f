use Rattle.answer_correctness.proofs.WholeExample.{checked, compiled}
use Rattle.answer_correctness.proofs.empty.an_example_of_answers.Goals as goal

pub returns : goal.returns
returns c = record { check = checked; compile = compiled }
