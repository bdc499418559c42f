use Rattle.machine_correctness.proofs.EvaluatedEnds.{knows, answers_as_meant, not_deep}
use Rattle.machine_correctness.proofs.run_theorems.a_machine_ends_as_the_source_means.Goals as goal

pub returns : goal.returns
returns c = record { knows = knows; ends = answers_as_meant; deep = not_deep }
