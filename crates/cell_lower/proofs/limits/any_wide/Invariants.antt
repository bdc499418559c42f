use Rattle.std.proofs.Common.{◌≡◌, drop}
use Rattle.cell_lower.specs.Limits as L
use Rattle.cell_lower.proofs.limits.any_wide.Given as goal

abbrev pub invariant-loop-binder : goal.invariant-loop-binder
invariant-loop-binder l = L.any_wide l.types (drop l.binder-index l.binders) ≡ L.any_wide l.types l.binders
