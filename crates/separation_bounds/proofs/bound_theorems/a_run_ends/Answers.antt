use Rattle.separation_bounds.proofs.Ending.{run_ends, ends_once, seen_once}
use Rattle.separation_bounds.proofs.bound_theorems.a_run_ends.Goals as goal

pub returns : goal.returns
returns c = record {
  some = λ code before waits n kept s calls start. run_ends code before waits n kept s calls start;
  one = λ code before waits first other n kept s calls e d last end left more steps done start kinds x y.
      ends_once code before waits first other n kept s calls e d last end left more steps done start kinds x y;
  seen = seen_once;
}
