use Rattle.std.proofs.Common.{◌≡◌, drop}
use Rattle.kind_domain.specs.code_rules.Leaves.{received}
use Rattle.register_kinds.proofs.registers.Registers.receive_all.Given as goal

abbrev pub invariant-loop-destination : goal.invariant-loop-destination
invariant-loop-destination l = record {
  step : l.place ≡ l.destination-index;
  rest : received l.table l.self.kinds (drop l.destination-index l.destinations) (drop l.place l.types)
      ≡ received l.table l.initial.self.kinds l.destinations l.types;
  maps : l.self.maps ≡ l.initial.self.maps;
}
