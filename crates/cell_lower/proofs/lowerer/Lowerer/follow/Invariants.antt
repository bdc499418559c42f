use Rattle.std.proofs.Common.{◌≡◌, ◌≤◌}
use Rattle.match_knowledge.specs.Known.{row_tests}
use Rattle.match_knowledge.specs.View.{known, rows}
use Rattle.lower_parts.specs.lowering_relation.Written.{size}
use Rattle.lower_parts.specs.Scenes.{sides_of}
use Rattle.lower_parts.proofs.Choosing.{Goes}
use Rattle.cell_lower.proofs.lowerer.Lowerer.follow.Given as goal

abbrev pub invariant-steps : goal.invariant-steps
invariant-steps l = record {
  goes : Goes l.initial.self.context.now.program.now.types l.choice l.initial.self.buffer (known l.initial.known) l.initial.read.items (sides_of l.initial.sides.items) l.self.buffer (known l.known) l.read.items (sides_of l.sides.items);
  grows : size l.initial.self.buffer ≤ size l.self.buffer;
  frame : l.self.frame ≡ l.initial.self.frame;
  context : l.self.context ≡ l.initial.self.context;
  gives_up : l.self.gives_up ≡ l.initial.self.gives_up;
  walk : l.self.walk ≡ l.initial.self.walk;
}

abbrev pub decreases-steps : goal.decreases-steps
decreases-steps l = row_tests (rows l.choice.rows.items) (known l.known)
