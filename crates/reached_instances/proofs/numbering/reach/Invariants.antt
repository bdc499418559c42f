use Rattle.std.proofs.Common.{◌≤◌, length}
use Rattle.closed_types.specs.SharedTrees.{Grows}
use Rattle.reached_instances.proofs.Walked.{IsWalking}
use Rattle.reached_instances.proofs.numbering.reach.Given as goal

abbrev pub invariant-loop-i : goal.invariant-loop-i
invariant-loop-i g l = record {
  few : length l.places ≤ l.most;
  right : g.R.Reaching.is_right l.reaching l.fn.shared → g.R.Reaching.is_right l.reaching l.shared;
  grows : g.R.Reaching.is_right l.reaching l.fn.shared → Grows l.fn.shared.branches l.shared.branches;
  walk : g.R.Reaching.is_right l.reaching l.fn.shared → IsWalking (g.R.Reaching.starts l.reaching l.fn.shared) (g.R.Reaching.next l.reaching) (g.R.Reaching.breaks l.reaching) l.fn.least l.i l.shared.branches l.places l.least;
}
