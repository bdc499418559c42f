use Rattle.std.proofs.Common.{◌≡◌, ℕ, suc, ◌+◌, drop, length}
use Rattle.type_check.specs.World.{plain_in}
use Rattle.type_check.proofs.Plains.{Will}
use Rattle.type_check.proofs.tables.plain_types.Given as goal

abbrev pub invariant-loop-data_type : goal.invariant-loop-data_type
invariant-loop-data_type l = record {
  number : l.number ≡ l.data_type-index;
  many : length l.found.items ≡ suc (length l.arities);
  found : (d : ℕ) → Will l.arities (drop l.data_type-index l.declaring) (l.data_type-index + 1) l.found.items d ≡ plain_in l.arities l.declaring 1 d;
}
