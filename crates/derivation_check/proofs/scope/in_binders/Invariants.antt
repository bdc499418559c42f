use Rattle.std.proofs.Common.{◌≡◌, drop}
use Rattle.derivation_check.specs.ScopeView.{first}
use Rattle.derivation_check.proofs.scope.in_binders.Given as goal

abbrev pub invariant-loop-binder : goal.invariant-loop-binder
invariant-loop-binder l = first l.binders l.number ≡ first (drop l.binder-index l.binders) l.number
