use Rattle.std.proofs.Common.{◌≡◌, ◌++◌, drop}
use Rattle.fip_trees.specs.Least.{after}
use Rattle.type_check.specs.Binders.{entries}
use Rattle.type_check.specs.Faults.{fill_binders, binders_faults}
use Rattle.type_check.proofs.Halves.{Binders_half}
use Rattle.type_check.proofs.lets.enter_binders.Given as goal

abbrev pub invariant-loop-binder : goal.invariant-loop-binder
invariant-loop-binder l = record {
  index : l.index ≡ l.binder-index;
  binders : Binders_half l.found l.binder-index l.binders ≡ fill_binders l.found l.initial.binders;
  scope : l.scope ++ entries (drop l.binder-index l.binders) (drop l.index l.found) ≡ l.initial.scope ++ entries l.initial.binders l.found;
  faults : after l.least (binders_faults l.walk.instance l.all (drop l.binder-index l.binders) (drop l.binder-index l.found)) ≡ after l.initial.least (binders_faults l.walk.instance l.all l.initial.binders l.found);
}
