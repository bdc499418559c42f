use Rattle.answer_correctness.proofs.AskedEvaluations.{eval_prints, eval_traps}
use Rattle.answer_correctness.proofs.evaluations.eval_reports_what_the_evaluation_gives.Goals as goal

pub returns : goal.returns
returns c = record { values = eval_prints; trap = eval_traps }
