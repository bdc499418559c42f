use Rattle.answer_correctness.proofs.Refused.{refused_is_reported}
use Rattle.answer_correctness.proofs.theorems.a_refused_source_is_reported.Goals as goal

pub returns : goal.returns
returns c = record {
  theorem = λ source input c' w r o h k. refused_is_reported source input c' w r o h k;
}
