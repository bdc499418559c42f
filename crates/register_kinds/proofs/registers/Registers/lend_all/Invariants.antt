use Rattle.std.proofs.Common.{◌≡◌, drop}
use Rattle.kind_domain.specs.code_rules.Handing.{lend_all}
use Rattle.register_kinds.proofs.registers.Registers.lend_all.Given as goal

abbrev pub invariant-loop-param : goal.invariant-loop-param
invariant-loop-param l = record {
  step : l.place ≡ l.param-index;
  rest : lend_all l.table l.in_tail l.self.kinds (drop l.param-index l.params) (drop l.place l.registers)
      ≡ lend_all l.table l.in_tail l.self.kinds l.params l.registers;
}
