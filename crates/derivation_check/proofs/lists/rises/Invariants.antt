use Rattle.std.proofs.Common.{◌<◌, drop}
use Rattle.derivation_check.specs.Owned.{Rising}
use Rattle.derivation_check.proofs.lists.rises.Given as goal

abbrev pub invariant-loop-number : goal.invariant-loop-number
invariant-loop-number l = record {
  down : Rising 0 l.below l.numbers → Rising l.least l.below (drop l.number-index l.numbers);
  up : Rising l.least l.below (drop l.number-index l.numbers) → Rising 0 l.below l.numbers;
}
