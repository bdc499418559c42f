use Rattle.separation_bounds.proofs.FipRuns.{fip_releases}
use Rattle.separation_bounds.proofs.Falling.{fip_count}
use Rattle.separation_bounds.proofs.bound_theorems.fip_runs_release_nothing.Goals as goal

pub returns : goal.returns
returns c = record { released = fip_releases; held = fip_count }
