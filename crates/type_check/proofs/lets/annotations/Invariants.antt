use Rattle.std.proofs.Common.{◌≡◌, ◌++◌, drop}
use Rattle.type_check.specs.Binders.{annotations}
use Rattle.type_check.proofs.lets.annotations.Given as goal

abbrev pub invariant-loop-binder : goal.invariant-loop-binder
invariant-loop-binder l = l.types.items ++ annotations (drop l.binder-index l.binders) ≡ annotations l.binders
