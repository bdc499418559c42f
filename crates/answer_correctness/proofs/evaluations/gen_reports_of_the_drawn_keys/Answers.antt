use Rattle.answer_correctness.proofs.AskedEvaluations.{gen_reports}
use Rattle.answer_correctness.proofs.evaluations.gen_reports_of_the_drawn_keys.Goals as goal

pub returns : goal.returns
returns c = record { text = gen_reports }
