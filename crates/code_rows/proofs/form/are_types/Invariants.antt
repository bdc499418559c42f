use Rattle.std.proofs.Common.{◌≡◌, drop}
use Rattle.code_rules.specs.Headers as h
use Rattle.code_rows.proofs.form.are_types.Given as goal

abbrev pub invariant-loop-ty : goal.invariant-loop-ty
invariant-loop-ty l = h.are_types l.table (drop l.ty-index l.types) ≡ h.are_types l.table l.types
