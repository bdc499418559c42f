use Rattle.std.proofs.Common.{◌≡◌, drop}
use Rattle.type_check.specs.Found.{some_differ}
use Rattle.type_check.proofs.results.some_differ.Given as goal

abbrev pub invariant-loop-ty : goal.invariant-loop-ty
invariant-loop-ty l = record {
  index : l.index ≡ l.ty-index;
  rest : some_differ (drop l.index l.expected) (drop l.ty-index l.types) ≡ some_differ l.expected l.types;
}
