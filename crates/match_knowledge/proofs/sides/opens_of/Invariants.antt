use Rattle.std.proofs.Common.{◌≡◌, drop, map}
use Rattle.match_knowledge.specs.Known.{opens}
use Rattle.match_knowledge.specs.View.{parts, known, before_knowns}
use Rattle.match_knowledge.proofs.sides.opens_of.Given as goal

abbrev pub invariant-loop-p : goal.invariant-loop-p
invariant-loop-p l = before_knowns (map known l.new.items) (opens (parts (drop l._p-index l.ps))) ≡ opens (parts l.ps)
