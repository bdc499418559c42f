use Rattle.std.proofs.Common.{◌≡◌, drop}
use Rattle.match_knowledge.specs.Known.{is_in}
use Rattle.match_knowledge.proofs.heads.is_in.Given as goal

abbrev pub invariant-loop-g : goal.invariant-loop-g
invariant-loop-g l = is_in l.h (drop l.g-index l.out) ≡ is_in l.h l.out
