use Rattle.std.proofs.Common.{◌<◌, drop}
use Rattle.derivation_check.specs.Owned.{RisingSizes}
use Rattle.derivation_check.proofs.counts.are_sizes.Given as goal

abbrev pub invariant-loop-credit : goal.invariant-loop-credit
invariant-loop-credit l = record {
  down : RisingSizes 1 l.credits → RisingSizes l.least (drop l.credit-index l.credits);
  up : RisingSizes l.least (drop l.credit-index l.credits) → RisingSizes 1 l.credits;
}
