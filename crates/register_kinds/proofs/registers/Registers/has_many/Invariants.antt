use Rattle.std.proofs.Common.{◌≡◌, ◌-◌, length}
use Rattle.register_kinds.proofs.registers.Registers.has_many.Given as goal

abbrev pub invariant-loop-place : goal.invariant-loop-place
invariant-loop-place l = record {
  kinds : l.self.kinds ≡ l.initial.self.kinds;
  maps : l.self.maps ≡ l.initial.self.maps;
}

abbrev pub decreases-loop-place : goal.decreases-loop-place
decreases-loop-place l = length l.self.kinds - l.place
