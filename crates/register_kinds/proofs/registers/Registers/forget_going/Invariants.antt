use Rattle.std.proofs.Common.{◌≡◌, ℕ, drop}
use Rattle.kind_domain.specs.code_rules.Changes.{goes, forget}
use Rattle.register_kinds.specs.Steps.{each}
use Rattle.register_kinds.proofs.registers.Registers.forget_going.Given as goal

abbrev pub invariant-loop-place : goal.invariant-loop-place
invariant-loop-place l = record {
  kinds : each (forget (goes l.initial.self.kinds l.register)) l.self.kinds (drop l.place l.initial.self.lent)
      ≡ each (forget (goes l.initial.self.kinds l.register)) l.initial.self.kinds l.initial.self.lent;
  same : (q : ℕ) → goes l.self.kinds l.register q ≡ goes l.initial.self.kinds l.register q;
  maps : l.self.maps ≡ l.initial.self.maps;
  lent : l.self.lent ≡ l.initial.self.lent;
}
