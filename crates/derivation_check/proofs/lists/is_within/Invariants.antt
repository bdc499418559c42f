use Rattle.derivation_check.proofs.Numbers.{WithinAt}
use Rattle.derivation_check.proofs.lists.is_within.Given as goal

abbrev pub invariant-loop-number : goal.invariant-loop-number
invariant-loop-number l = WithinAt l.few l.many l.place l.number-index
