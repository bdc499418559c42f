use Rattle.answer_correctness.proofs.TracedRuns.{traced}
use Rattle.answer_correctness.proofs.existence.a_source_with_a_code_is_traced.Goals as goal

pub returns : goal.returns
returns c = record { theorem = traced }
