use Rattle.std.proofs.Common.{◌≡◌, drop}
use Rattle.fip_base.specs.CoreView.{binders}
use Rattle.fip_trees.specs.Least.{after}
use Rattle.data_types.specs.Faults.{binders_faults}
use Rattle.data_types.proofs.bodies.check_binders.Given as goal

abbrev pub invariant-loop-binder : goal.invariant-loop-binder
invariant-loop-binder l = after l.least (binders_faults l.scope (binders (drop l.binder-index l.binders))) ≡ after l.initial.least (binders_faults l.scope (binders l.binders))
