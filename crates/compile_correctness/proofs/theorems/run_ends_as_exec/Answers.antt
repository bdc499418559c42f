use Rattle.compile_correctness.proofs.Alike.{ends_alike}
use Rattle.compile_correctness.proofs.theorems.run_ends_as_exec.Goals as goal

pub returns : goal.returns
returns c = record { theorem = ends_alike }
