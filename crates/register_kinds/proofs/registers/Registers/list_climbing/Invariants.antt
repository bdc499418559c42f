use Rattle.std.proofs.Common.{◌≡◌, ◌≤◌, ◌-◌, ℕ, length}
use Rattle.std.specs.Prelude.{Option, true}
use Rattle.kind_domain.specs.code_rules.Kinds.{at, from_of, has}
use Rattle.register_kinds.specs.Climbs.{IsHeld}
use Rattle.kind_domain.specs.Leading.{is_lent_in}
use Rattle.register_kinds.proofs.registers.Registers.list_climbing.Given as goal

abbrev pub invariant-loop-place : goal.invariant-loop-place
invariant-loop-place l = record {
  within : l.place ≤ length l.self.lent;
  held : (q : ℕ) → has l.self.lent q ≡ true → (o : Option ℕ) → is_lent_in o (at l.initial.self.kinds q) ≡ true →
      IsHeld l.initial.self.kinds o (from_of (at l.initial.self.kinds q));
  kinds : l.self.kinds ≡ l.initial.self.kinds;
  maps : l.self.maps ≡ l.initial.self.maps;
}

abbrev pub decreases-loop-place : goal.decreases-loop-place
decreases-loop-place l = length l.self.kinds - l.place
