use Rattle.std.proofs.Common.{◌≡◌, drop, map}
use Rattle.match_knowledge.specs.Known.{side_all}
use Rattle.match_knowledge.specs.View.{parts, known, knowns, before_knowns, side_rest}
use Rattle.match_knowledge.proofs.sides.+side.Given as goal

abbrev pub invariant-side_all-loop-k : goal.invariant-side_all-loop-k
invariant-side_all-loop-k l = record {
  place : l.j ≡ l.k-index;
  made : before_knowns (map known l.new.items) (side_rest l.met l.holds (parts (drop l.j l.ps)) (knowns (drop l.k-index l.ks))) ≡ side_all l.holds (parts l.ps) (knowns l.ks);
}
