use Rattle.derivation_check.proofs.Numbers.{SplitAt}
use Rattle.derivation_check.proofs.lists.is_split.Given as goal

abbrev pub invariant-loop-number : goal.invariant-loop-number
invariant-loop-number l = SplitAt l.whole l.one l.other l.number-index l.taken l.left
