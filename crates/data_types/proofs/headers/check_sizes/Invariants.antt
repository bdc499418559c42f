use Rattle.std.proofs.Common.{◌≡◌, drop}
use Rattle.fip_trees.specs.Least.{after}
use Rattle.data_types.specs.Faults.{mark_faults}
use Rattle.data_types.proofs.headers.check_sizes.Given as goal

abbrev pub invariant-loop-mark : goal.invariant-loop-mark
invariant-loop-mark l = after l.least (mark_faults (drop l.mark-index l.credits)) ≡ after l.initial.least (mark_faults l.credits)
