use Rattle.separation_bounds.proofs.FipRuns.{never_deep}
use Rattle.separation_bounds.proofs.bound_theorems.fip_runs_are_never_too_deep.Goals as goal

pub returns : goal.returns
returns c = record { theorem = never_deep }
