use Rattle.answer_correctness.proofs.Joined.{compiled_runs}
use Rattle.answer_correctness.proofs.stored_files.compile_then_run_is_exec.Goals as goal

pub returns : goal.returns
returns c = record { theorem = compiled_runs }
