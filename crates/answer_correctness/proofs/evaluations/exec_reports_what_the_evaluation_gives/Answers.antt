use Rattle.answer_correctness.proofs.AskedEvaluations.{comes_to_values, comes_to_a_trap}
use Rattle.answer_correctness.proofs.evaluations.exec_reports_what_the_evaluation_gives.Goals as goal

pub returns : goal.returns
returns c = record { values = comes_to_values; trap = comes_to_a_trap }
