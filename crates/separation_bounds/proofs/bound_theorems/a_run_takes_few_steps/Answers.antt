use Rattle.separation_bounds.proofs.FewSteps.{run_in_time}
use Rattle.separation_bounds.proofs.bound_theorems.a_run_takes_few_steps.Goals as goal

pub returns : goal.returns
returns c = record { theorem = run_in_time }
