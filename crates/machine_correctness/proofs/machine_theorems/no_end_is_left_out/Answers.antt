use Rattle.machine_correctness.proofs.VerifiedEnds.{runs_just, reports_just_run}
use Rattle.machine_correctness.proofs.machine_theorems.no_end_is_left_out.Goals as goal

pub returns : goal.returns
returns c = record { run = runs_just; gauge = reports_just_run }
