use Rattle.std.proofs.Common.{◌≡◌, ◌<◌, ℕ, get_or, length, true}
use Rattle.fip_trees.specs.fip_language.Table.{is_scalar}
use Rattle.derivation_check.proofs.scalar_types.ScalarTypes.of.Given as goal

abbrev pub invariant-loop-ty : goal.invariant-loop-ty
invariant-loop-ty l = record {
  long : length l.flags ≡ 4097;
  flags : (t : ℕ) → t < l.ty → get_or l.flags t true ≡ is_scalar l.program.types t;
}
