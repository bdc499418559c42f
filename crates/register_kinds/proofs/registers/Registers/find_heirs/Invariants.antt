use Rattle.std.proofs.Common.{◌≡◌}
use Rattle.kind_domain.specs.code_rules.Taking.{is_heir, part}
use Rattle.register_kinds.specs.Takes.{AreReached, nones}
use Rattle.register_kinds.proofs.registers.Registers.find_heirs.Given as goal

abbrev pub invariant-loop : goal.invariant-loop
invariant-loop l = record {
  reached : AreReached l.initial.self.kinds (is_heir l.table l.initial.self.kinds l.register (part l.parts l.types))
      l.self.reached;
  kinds : l.self.kinds ≡ l.initial.self.kinds;
  maps : l.self.maps ≡ l.initial.self.maps;
  lent : l.self.lent ≡ l.initial.self.lent;
}

abbrev pub decreases-loop : goal.decreases-loop
decreases-loop l = nones l.self.reached
