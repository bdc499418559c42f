use Rattle.std.proofs.Common.{◌≡◌, drop}
use Rattle.register_kinds.specs.Steps.{each, lose}
use Rattle.register_kinds.proofs.registers.Registers.lose_listed.Given as goal

abbrev pub invariant-loop-place : goal.invariant-loop-place
invariant-loop-place l = record {
  kinds : each (lose l.register) l.self.kinds (drop l.place l.initial.self.lent)
      ≡ each (lose l.register) l.initial.self.kinds l.initial.self.lent;
  maps : l.self.maps ≡ l.initial.self.maps;
  lent : l.self.lent ≡ l.initial.self.lent;
}
