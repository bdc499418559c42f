use Rattle.std.proofs.Common.{◌≡◌, ◌+◌, drop}
use Rattle.match_knowledge.specs.View.{parts, knowns}
use Rattle.match_cover.specs.TreeView.{asking}
use Rattle.match_cover.proofs.trees.first_asking.Given as goal

abbrev pub invariant-loop-k : goal.invariant-loop-k
invariant-loop-k l = record {
  place : l.j ≡ l.k-index;
  same : l.j + asking (parts (drop l.j l.ps)) (knowns (drop l.k-index l.ks)) ≡ asking (parts l.ps) (knowns l.ks);
}
