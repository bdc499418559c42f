use Rattle.answer_correctness.proofs.SomeEnd.{some_text, some_tree}
use Rattle.answer_correctness.proofs.existence.the_library_has_an_answer.Goals as goal

pub returns : goal.returns
returns c = record { text = some_text; tree = some_tree }
