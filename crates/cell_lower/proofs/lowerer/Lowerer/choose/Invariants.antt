use Rattle.std.proofs.Common.{◌≡◌, ◌-◌}
use Rattle.lower_parts.specs.lowering_relation.Written.{size}
use Rattle.lower_parts.specs.Scenes.{sides_of}
use Rattle.lower_parts.specs.Writing.{setting}
use Rattle.lower_parts.proofs.Choosing.{Turns}
use Rattle.lower_parts.proofs.Sided.{TurnsLaid}
use Rattle.cell_lower.proofs.lowerer.Lowerer.choose.Given as goal

abbrev pub invariant-turns : goal.invariant-turns
invariant-turns l = record {
  turns : Turns l.initial.self.context.now.program.now.types l.choice l.clause l.initial.self.buffer (sides_of l.initial.sides.items) l.self.buffer (sides_of l.sides.items);
  laid : TurnsLaid (setting l.initial.self.context.now) l.initial.self.frame.held l.choice l.clause l.initial.self.buffer (sides_of l.initial.sides.items) l.self.buffer (sides_of l.sides.items);
  frame : l.self.frame ≡ l.initial.self.frame;
  context : l.self.context ≡ l.initial.self.context;
  gives_up : l.self.gives_up ≡ l.initial.self.gives_up;
  walk : l.self.walk ≡ l.initial.self.walk;
}

abbrev pub decreases-turns : goal.decreases-turns
decreases-turns l = 4294967296 - size l.self.buffer
