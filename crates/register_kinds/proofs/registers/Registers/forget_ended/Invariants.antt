use Rattle.std.proofs.Common.{◌≡◌, drop, length}
use Rattle.kind_domain.specs.code_rules.Taking.{part, ends}
use Rattle.register_kinds.specs.Takes.{forgotten, in_turn, seen_at, Alike}
use Rattle.register_kinds.proofs.registers.Registers.forget_ended.Given as goal

abbrev pub invariant-loop-place : goal.invariant-loop-place
invariant-loop-place l = record {
  kinds : in_turn (forgotten l.register (part l.parts l.types) (ends l.table l.initial.self.kinds l.register
      (part l.parts l.types) (length l.parts) (seen_at l.initial.self.kinds l.initial.self.reached)))
      l.self.kinds (drop l.place l.initial.self.lent)
      ≡ in_turn (forgotten l.register (part l.parts l.types) (ends l.table l.initial.self.kinds l.register
      (part l.parts l.types) (length l.parts) (seen_at l.initial.self.kinds l.initial.self.reached)))
      l.initial.self.kinds l.initial.self.lent;
  alike : Alike l.register (part l.parts l.types) l.self.kinds l.initial.self.kinds;
  maps : l.self.maps ≡ l.initial.self.maps;
  lent : l.self.lent ≡ l.initial.self.lent;
  reached : l.self.reached ≡ l.initial.self.reached;
}
