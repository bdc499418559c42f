use Rattle.std.proofs.Common.{◌≡◌, ◌⊎◌, ◌≤◌, ◌-◌, ℕ, drop, length}
use Rattle.std.specs.Prelude.{true}
use Rattle.kind_domain.specs.code_rules.Kinds.{at, from_of, has}
use Rattle.kind_domain.specs.code_rules.Taking.{part}
use Rattle.kind_domain.specs.Leading.{Grows, names}
use Rattle.register_kinds.specs.Sorted.{AreGood}
use Rattle.register_kinds.proofs.registers.Registers.list_rest.Given as goal

abbrev pub invariant-loop-place : goal.invariant-loop-place
invariant-loop-place l = record {
  within : l.place ≤ length l.self.lent;
  closed : (p q : ℕ) → has l.self.lent p ≡ true → names p (from_of (at l.initial.self.kinds q)) ≡ true →
      (has (drop l.place l.self.lent) p ≡ true) ⊎ (has l.self.lent q ≡ true);
  good : AreGood l.table l.initial.self.kinds l.register (part l.parts l.types) l.initial.self.lent
      l.initial.self.reached → AreGood l.table l.initial.self.kinds l.register (part l.parts l.types) l.self.lent
      l.self.reached;
  more : Grows l.initial.self.lent l.self.lent;
  kinds : l.self.kinds ≡ l.initial.self.kinds;
  maps : l.self.maps ≡ l.initial.self.maps;
}

abbrev pub decreases-loop-place : goal.decreases-loop-place
decreases-loop-place l = length l.self.kinds - l.place
