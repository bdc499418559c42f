use Rattle.std.proofs.Common.{◌≡◌, drop}
use Rattle.kind_domain.specs.code_rules.Taking.{part}
use Rattle.register_kinds.specs.Takes.{fated, in_turn, stands_for}
use Rattle.register_kinds.proofs.registers.Registers.pass_on.Given as goal

abbrev pub invariant-loop-place : goal.invariant-loop-place
invariant-loop-place l = record {
  kinds : in_turn (fated (stands_for l.keeper l.register) l.register (part l.parts l.types) l.initial.self.reached)
      l.self.kinds (drop l.place l.initial.self.lent)
      ≡ in_turn (fated (stands_for l.keeper l.register) l.register (part l.parts l.types) l.initial.self.reached)
      l.initial.self.kinds l.initial.self.lent;
  maps : l.self.maps ≡ l.initial.self.maps;
  lent : l.self.lent ≡ l.initial.self.lent;
  reached : l.self.reached ≡ l.initial.self.reached;
}
