use Rattle.std.proofs.Common.{◌≡◌, drop}
use Rattle.kind_domain.specs.code_rules.Handing.{pass_all}
use Rattle.register_kinds.proofs.registers.Registers.pass_all.Given as goal

abbrev pub invariant-loop-param : goal.invariant-loop-param
invariant-loop-param l = record {
  step : l.place ≡ l.param-index;
  rest : pass_all l.table l.self.kinds (drop l.param-index l.params) (drop l.place l.registers)
      ≡ pass_all l.table l.initial.self.kinds l.params l.registers;
  maps : l.self.maps ≡ l.initial.self.maps;
}
