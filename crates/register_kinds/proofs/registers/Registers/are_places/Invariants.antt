use Rattle.std.proofs.Common.{◌≡◌, drop}
use Rattle.kind_domain.specs.code_rules.Asked.{are_places}
use Rattle.register_kinds.proofs.registers.Registers.are_places.Given as goal

abbrev pub invariant-loop-place : goal.invariant-loop-place
invariant-loop-place l = are_places l.self.kinds (drop l.place l.registers) ≡ are_places l.self.kinds l.registers
