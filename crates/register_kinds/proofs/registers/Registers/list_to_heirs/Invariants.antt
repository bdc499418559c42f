use Rattle.std.proofs.Common.{◌≡◌, ◌⊎◌, ℕ, drop}
use Rattle.std.specs.Prelude.{true}
use Rattle.kind_domain.specs.code_rules.Kinds.{at, has}
use Rattle.kind_domain.specs.code_rules.Taking.{is_heir, part}
use Rattle.kind_domain.specs.Leading.{Grows, leads}
use Rattle.register_kinds.proofs.registers.Registers.list_to_heirs.Given as goal

abbrev pub invariant-loop-heir : goal.invariant-loop-heir
invariant-loop-heir l = record {
  listed : (p q : ℕ) → has l.parts p ≡ true →
      is_heir l.table l.initial.self.kinds l.register (part l.parts l.types) p ≡ true →
      leads p (at l.initial.self.kinds q) ≡ true → (has (drop l.heir-index l.parts) p ≡ true) ⊎ (has l.self.lent q ≡ true);
  more : Grows l.initial.self.lent l.self.lent;
  kinds : l.self.kinds ≡ l.initial.self.kinds;
  maps : l.self.maps ≡ l.initial.self.maps;
  reached : l.self.reached ≡ l.initial.self.reached;
}
