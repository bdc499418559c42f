use Rattle.std.proofs.Common.{◌≡◌, drop}
use Rattle.match_knowledge.specs.Known.{are_last}
use Rattle.match_knowledge.specs.View.{parts, knowns}
use Rattle.match_knowledge.proofs.sides.+last.Given as goal

abbrev pub invariant-are_last-loop-k : goal.invariant-are_last-loop-k
invariant-are_last-loop-k l = record {
  place : l.j ≡ l.k-index;
  found : are_last l.types (parts (drop l.j l.ps)) (knowns (drop l.k-index l.ks)) ≡ are_last l.types (parts l.ps) (knowns l.ks);
}
