use Rattle.std.proofs.Common.{◌≡◌, ◌++◌, drop}
use Rattle.type_check.specs.Found.{unknowns}
use Rattle.type_check.proofs.results.unknowns.Given as goal

abbrev pub invariant-loop-ty : goal.invariant-loop-ty
invariant-loop-ty l = l.found.items ++ unknowns (drop l.ty-index l.types) ≡ unknowns l.types
