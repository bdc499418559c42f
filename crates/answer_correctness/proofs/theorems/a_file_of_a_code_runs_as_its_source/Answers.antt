use Rattle.answer_correctness.proofs.MeantRuns.{runs_as_its_source}
use Rattle.answer_correctness.proofs.theorems.a_file_of_a_code_runs_as_its_source.Goals as goal

pub returns : goal.returns
returns c = record { theorem = λ source file name input room gauge p code d e accepted is sound k r. runs_as_its_source source file name input room gauge p code d e accepted is sound k r }
