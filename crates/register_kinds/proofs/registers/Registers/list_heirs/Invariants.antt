use Rattle.std.proofs.Common.{◌≡◌, ◌⊎◌, ℕ, drop}
use Rattle.std.specs.Prelude.{true, Some}
use Rattle.kind_domain.specs.code_rules.Kinds.{at, from_of, has}
use Rattle.kind_domain.specs.code_rules.Taking.{is_heir, part}
use Rattle.kind_domain.specs.Leading.{Grows, names}
use Rattle.register_kinds.specs.Sorted.{AreGood}
use Rattle.register_kinds.proofs.registers.Registers.list_heirs.Given as goal

abbrev pub invariant-loop-heir : goal.invariant-loop-heir
invariant-loop-heir l = record {
  heirs : (p q : ℕ) → has l.parts p ≡ true → is_heir l.table l.initial.self.kinds l.register (part l.parts l.types) p ≡ true →
      (l.keeper ≡ Some p → ⊥) → names p (from_of (at l.initial.self.kinds q)) ≡ true →
      (has (drop l.heir-index l.parts) p ≡ true) ⊎ (has l.self.lent q ≡ true);
  good : AreGood l.table l.initial.self.kinds l.register (part l.parts l.types) l.initial.self.lent
      l.initial.self.reached → AreGood l.table l.initial.self.kinds l.register (part l.parts l.types) l.self.lent
      l.self.reached;
  more : Grows l.initial.self.lent l.self.lent;
  kinds : l.self.kinds ≡ l.initial.self.kinds;
  maps : l.self.maps ≡ l.initial.self.maps;
}
