use Rattle.std.proofs.Common.{◌≡◌, drop}
use Rattle.match_knowledge.specs.View.{rows, known}
use Rattle.match_cover.specs.TreeView.{SameFirst}
use Rattle.match_cover.proofs.trees.find_first.Given as goal

abbrev pub invariant-loop-p : goal.invariant-loop-p
invariant-loop-p l = record {
  place : l.i ≡ l.p-index;
  same : SameFirst (rows l.ps) (known l.k) l.i (rows (drop l.p-index l.ps));
}
