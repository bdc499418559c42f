use Rattle.std.proofs.Common.{◌≡◌, drop}
use Rattle.match_knowledge.specs.Known.{both, compare_all}
use Rattle.match_knowledge.specs.View.{parts, knowns}
use Rattle.match_knowledge.proofs.verdicts.+compare.Given as goal

abbrev pub invariant-compare_all-loop-p : goal.invariant-compare_all-loop-p
invariant-compare_all-loop-p l = record {
  place : l.j ≡ l.p-index;
  found : both l.verdict (compare_all (parts (drop l.p-index l.ps)) (knowns (drop l.j l.ks))) ≡ compare_all (parts l.ps) (knowns l.ks);
}
