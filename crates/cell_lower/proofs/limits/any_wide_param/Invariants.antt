use Rattle.std.proofs.Common.{◌≡◌, drop}
use Rattle.cell_lower.specs.Limits as L
use Rattle.cell_lower.proofs.limits.any_wide_param.Given as goal

abbrev pub invariant-loop-param : goal.invariant-loop-param
invariant-loop-param l = L.any_wide_param l.types (drop l.param-index l.params) ≡ L.any_wide_param l.types l.params
