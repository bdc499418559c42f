use Rattle.std.proofs.Common.{◌≡◌, drop}
use Rattle.kind_domain.specs.code_rules.Handing.{hand_all}
use Rattle.register_kinds.proofs.registers.Registers.hand_all.Given as goal

abbrev pub invariant-loop-size : goal.invariant-loop-size
invariant-loop-size l = record {
  step : l.place ≡ l.size-index;
  rest : hand_all l.self.kinds (drop l.size-index l.sizes) (drop l.place l.registers)
      ≡ hand_all l.initial.self.kinds l.sizes l.registers;
  maps : l.self.maps ≡ l.initial.self.maps;
}
