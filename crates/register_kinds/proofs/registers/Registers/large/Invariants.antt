use Rattle.std.proofs.Common.{◌≡◌}
use Rattle.register_kinds.proofs.registers.Registers.large.Given as goal

abbrev pub invariant-loop-part : goal.invariant-loop-part
invariant-loop-part l = record {
  kinds : l.self.kinds ≡ l.initial.self.kinds;
  maps : l.self.maps ≡ l.initial.self.maps;
}
