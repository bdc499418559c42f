use Rattle.command_answers.proofs.command_library.command_run.CodeOnce.{code_run_once}
use Rattle.answer_correctness.proofs.SomeRun.{some_run}
use Rattle.answer_correctness.proofs.runs.what_is_reported_of_a_run_is_one.Goals as goal

pub returns : goal.returns
returns c = record { some = some_run; one = code_run_once }
