use Rattle.std.proofs.Common.{◌≡◌, ◌∷◌}
use Rattle.match_knowledge.specs.Known.{all_out}
use Rattle.match_knowledge.proofs.sides.all_out.Given as goal

abbrev pub invariant-loop-left : goal.invariant-loop-left
invariant-loop-left l = all_out l.left (l.h ∷ l.out) ≡ all_out l.n (l.h ∷ l.out)

abbrev pub decreases-loop-left : goal.decreases-loop-left
decreases-loop-left l = l.left
