use Rattle.std.proofs.Common.{◌≡◌, drop, ◌++◌}
use Rattle.lowering_relation.specs.Joins.{still_held}
use Rattle.lower_frame.proofs.frame.still_held.Given as goal

abbrev pub invariant-loop-credit : goal.invariant-loop-credit
invariant-loop-credit l = l.left.items ++ still_held l.helds (drop l.credit-index l.credits) ≡ still_held l.helds l.credits
