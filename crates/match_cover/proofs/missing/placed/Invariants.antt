use Rattle.std.proofs.Common.{◌≡◌, ◌≤◌, take, length}
use Rattle.match_knowledge.specs.View.{known}
use Rattle.match_cover.specs.Missing.{placed}
use Rattle.match_cover.specs.MissingView.{levels}
use Rattle.match_cover.proofs.missing.placed.Given as goal

abbrev pub invariant-loop-n : goal.invariant-loop-n
invariant-loop-n l = record {
  within : l.n ≤ length l.at;
  same : placed (levels (take l.n l.at)) (known l.k) ≡ placed (levels l.at) (known l.initial.k);
}

abbrev pub decreases-loop-n : goal.decreases-loop-n
decreases-loop-n l = l.n
