use Rattle.std.proofs.Common.{◌≡◌, drop, ◌++◌}
use Rattle.lower_parts.specs.lowering_relation.LoweredBodies.{registers_for, reserved}
use Rattle.lower_parts.specs.lower_frame.Positions.{reaching}
use Rattle.lower_parts.specs.lower_frame.Registers.{HasRoom}
use Rattle.cell_lower.proofs.lowerer.Lowerer.reserve.Given as goal

abbrev pub invariant-loop : goal.invariant-loop
invariant-loop l = record {
  registers : l.registers.items ++ registers_for l.self.frame.next (drop l.counter l.binders) ≡ registers_for l.initial.self.frame.next l.binders;
  frame : reserved l.self.frame (drop l.counter l.binders) ≡ reserved l.initial.self.frame l.binders;
  reached : l.self.frame ≡ reaching l.initial.self.frame l.self.frame.next;
  room : HasRoom l.initial.self.frame l.self.frame;
  context : l.self.context ≡ l.initial.self.context;
  gives_up : l.self.gives_up ≡ l.initial.self.gives_up;
  walk : l.self.walk ≡ l.initial.self.walk;
  buffer : l.self.buffer ≡ l.initial.self.buffer;
}
