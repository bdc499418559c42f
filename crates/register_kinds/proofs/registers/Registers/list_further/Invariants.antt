use Rattle.std.proofs.Common.{◌≡◌, ◌≤◌, ◌-◌, length}
use Rattle.kind_domain.specs.Leading.{ClosedBelow, Grows}
use Rattle.register_kinds.proofs.registers.Registers.list_further.Given as goal

abbrev pub invariant-loop-place : goal.invariant-loop-place
invariant-loop-place l = record {
  within : l.place ≤ length l.self.lent;
  closed : ClosedBelow l.initial.self.kinds l.self.lent l.place;
  more : Grows l.initial.self.lent l.self.lent;
  kinds : l.self.kinds ≡ l.initial.self.kinds;
  maps : l.self.maps ≡ l.initial.self.maps;
  reached : l.self.reached ≡ l.initial.self.reached;
}

abbrev pub decreases-loop-place : goal.decreases-loop-place
decreases-loop-place l = length l.self.kinds - l.place
