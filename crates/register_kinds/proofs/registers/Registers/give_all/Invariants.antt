use Rattle.std.proofs.Common.{◌≡◌, drop}
use Rattle.kind_domain.specs.code_rules.Handing.{give_all}
use Rattle.register_kinds.proofs.registers.Registers.give_all.Given as goal

abbrev pub invariant-loop-source : goal.invariant-loop-source
invariant-loop-source l = record {
  step : l.place ≡ l.source-index;
  rest : give_all l.self.kinds (drop l.source-index l.sources) (drop l.place l.types)
      ≡ give_all l.initial.self.kinds l.sources l.types;
  maps : l.self.maps ≡ l.initial.self.maps;
}
