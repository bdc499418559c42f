use Rattle.std.proofs.Common.{◌≡◌, drop}
use Rattle.code_tables.specs.Marks.{all_marked}
use Rattle.code_tables.proofs.finite.first_unmarked.Given as goal

abbrev pub invariant-loop-ty : goal.invariant-loop-ty
invariant-loop-ty l = all_marked l.marks (drop l.ty-index l.types) ≡ all_marked l.marks l.types
