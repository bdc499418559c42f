use Rattle.separation_bounds.proofs.FipRuns.{frames_within, words_within}
use Rattle.separation_bounds.proofs.bound_theorems.fip_runs_stay_within_their_stack.Goals as goal

pub returns : goal.returns
returns c = record { frames = frames_within; words = words_within }
