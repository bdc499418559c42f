use Rattle.std.proofs.Common.{◌≡◌, ◌++◌, map, Some, drop}
use Rattle.type_check.proofs.results.all_known.Given as goal

abbrev pub invariant-loop-ty : goal.invariant-loop-ty
invariant-loop-ty l = l.found.items ++ map Some (drop l.ty-index l.types) ≡ map Some l.types
