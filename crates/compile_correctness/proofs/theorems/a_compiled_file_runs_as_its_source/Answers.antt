use Rattle.compile_correctness.proofs.Joined.{runs_as_its_source}
use Rattle.compile_correctness.proofs.theorems.a_compiled_file_runs_as_its_source.Goals as goal

pub returns : goal.returns
returns c = record { theorem = runs_as_its_source }
