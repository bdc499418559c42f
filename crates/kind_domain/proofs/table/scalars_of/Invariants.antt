use Rattle.std.proofs.Common.{◌≡◌, ℕ, ◌+◌, ◌<◌, length, slice_get}
use Rattle.std.specs.Prelude.{Some}
use Rattle.cell_code.specs.fip_language.Table.{is_scalar}
use Rattle.kind_domain.proofs.table.scalars_of.Given as goal

abbrev pub invariant-loop-place : goal.invariant-loop-place
invariant-loop-place l = record {
  long : length l.scalars.items ≡ l.place + 1;
  marks : (i : ℕ) → i < l.place + 1 → slice_get l.scalars.items i ≡ Some (is_scalar l.types i);
}
