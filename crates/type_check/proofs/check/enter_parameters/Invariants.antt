use Rattle.std.proofs.Common.{◌≡◌, ◌++◌, drop}
use Rattle.type_check.specs.Typing.{parameter_entries}
use Rattle.type_check.specs.Faults.{fill_parameters}
use Rattle.type_check.proofs.Halves.{Params_half}
use Rattle.type_check.proofs.check.enter_parameters.Given as goal

abbrev pub invariant-loop-binder : goal.invariant-loop-binder
invariant-loop-binder l = record {
  index : l.index ≡ l.binder-index;
  binders : Params_half l.params l.binder-index l.binders ≡ fill_parameters l.params l.initial.binders;
  scope : l.scope ++ parameter_entries (drop l.binder-index l.params) (drop l.binder-index l.binders) ≡ l.initial.scope ++ parameter_entries l.params l.initial.binders;
}
