use Rattle.std.proofs.Common.{◌≡◌, drop}
use Rattle.code_rules.specs.Asked.{same_types}
use Rattle.code_rows.proofs.handing_rows.same_types.Given as goal

abbrev pub invariant-loop-ty : goal.invariant-loop-ty
invariant-loop-ty l = record {
  step : l.place ≡ l.ty-index;
  rest : same_types (drop l.ty-index l.types) (drop l.place l.others) ≡ same_types l.types l.others;
}
