use Rattle.std.proofs.Common.{◌≡◌, ℕ, drop, length}
use Rattle.std.specs.Prelude.{true, Some, slice_get}
use Rattle.code_rules.specs.Kinds.{has}
use Rattle.kind_domain.specs.Leading.{kept_at}
use Rattle.kind_domain.proofs.lents.clear_each.Given as goal

abbrev pub invariant-loop-register : goal.invariant-loop-register
invariant-loop-register l = record {
  marks : (q : ℕ) → slice_get l.listed q ≡ Some true → slice_get l.initial.listed q ≡ Some true;
  unmarked : (q : ℕ) → slice_get l.listed q ≡ Some true → has l.registers q ≡ true →
      has (drop l.register-index l.registers) q ≡ true;
  heirs : (q d : ℕ) → kept_at l.reached.items q ≡ Some d → kept_at l.initial.reached.items q ≡ Some d;
  unreached : (q d : ℕ) → kept_at l.reached.items q ≡ Some d → has l.registers q ≡ true →
      has (drop l.register-index l.registers) q ≡ true;
  marks_long : length l.listed ≡ length l.initial.listed;
  heirs_long : length l.reached.items ≡ length l.initial.reached.items;
}
