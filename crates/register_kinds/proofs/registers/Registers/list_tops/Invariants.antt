use Rattle.std.proofs.Common.{◌≡◌, ℕ}
use Rattle.std.specs.Prelude.{Option, true}
use Rattle.kind_domain.specs.code_rules.Kinds.{at, from_of, has}
use Rattle.register_kinds.specs.Climbs.{IsHeld}
use Rattle.kind_domain.specs.Leading.{is_lent_in}
use Rattle.register_kinds.proofs.registers.Registers.list_tops.Given as goal

abbrev pub invariant-loop-register : goal.invariant-loop-register
invariant-loop-register l = record {
  held : (q : ℕ) → has l.self.lent q ≡ true → (o : Option ℕ) → is_lent_in o (at l.initial.self.kinds q) ≡ true →
      IsHeld l.initial.self.kinds o (from_of (at l.initial.self.kinds q));
  kinds : l.self.kinds ≡ l.initial.self.kinds;
  maps : l.self.maps ≡ l.initial.self.maps;
}
