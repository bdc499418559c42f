use Rattle.std.proofs.Common.{◌≡◌, ◌++◌, drop, take}
use Rattle.register_kinds.proofs.registers.Registers.put_all.Given as goal

abbrev pub invariant-loop-kind : goal.invariant-loop-kind
invariant-loop-kind l = record {
  step : l.register ≡ l.kind-index;
  kinds : l.self.kinds ≡ take l.kind-index l.kinds ++ drop l.kind-index l.initial.self.kinds;
  maps : l.self.maps ≡ l.initial.self.maps;
}
