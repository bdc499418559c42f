use Rattle.std.proofs.Common.{◌≡◌}
use Rattle.register_kinds.proofs.registers.Registers.largest.Given as goal

abbrev pub invariant-loop : goal.invariant-loop
invariant-loop l = record {
  kinds : l.self.kinds ≡ l.initial.self.kinds;
  maps : l.self.maps ≡ l.initial.self.maps;
}
