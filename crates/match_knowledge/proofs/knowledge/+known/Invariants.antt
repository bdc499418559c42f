use Rattle.std.proofs.Common.{◌≡◌, drop, map}
use Rattle.match_knowledge.specs.Left.{all_known}
use Rattle.match_knowledge.specs.View.{parts, known, before_knowns}
use Rattle.match_knowledge.proofs.knowledge.+known.Given as goal

abbrev pub invariant-all_known-loop-p : goal.invariant-all_known-loop-p
invariant-all_known-loop-p l = before_knowns (map known l.new.items) (all_known (parts (drop l.p-index l.ps))) ≡ all_known (parts l.ps)
