use Rattle.compile_correctness.proofs.Upgraded.{upgraded_once, upgraded_ends}
use Rattle.compile_correctness.proofs.theorems.an_upgraded_file_runs_as_before.Goals as goal

pub returns : goal.returns
returns c = record { theorem = upgraded_once; ends = upgraded_ends }
