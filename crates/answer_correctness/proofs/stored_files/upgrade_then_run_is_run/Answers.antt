use Rattle.answer_correctness.proofs.Joined.{upgraded_runs}
use Rattle.answer_correctness.proofs.stored_files.upgrade_then_run_is_run.Goals as goal

pub returns : goal.returns
returns c = record { theorem = upgraded_runs }
