use Rattle.std.proofs.Common.{◌≡◌, drop}
use Rattle.fip_trees.specs.Least.{after}
use Rattle.type_check.specs.Faults.{tuples_faults}
use Rattle.type_check.proofs.check.note_tuples.Given as goal

abbrev pub invariant-loop-tuple : goal.invariant-loop-tuple
invariant-loop-tuple l = after l.least (tuples_faults l.walk.instance (drop l.tuple-index l.tuples)) ≡ after l.initial.least (tuples_faults l.walk.instance l.tuples)
