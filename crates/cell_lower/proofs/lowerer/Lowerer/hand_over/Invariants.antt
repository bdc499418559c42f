use Rattle.std.proofs.Common.{◌≡◌, drop}
use Rattle.lower_parts.specs.lowering_relation.Known.{using}
use Rattle.lower_parts.specs.lowering_relation.LoweredBodies.{handed}
use Rattle.cell_lower.proofs.lowerer.Lowerer.hand_over.Given as goal

abbrev pub invariant-loop-param : goal.invariant-loop-param
invariant-loop-param l = record {
  place : l.place ≡ l.param-index;
  handed : using l.self.frame (handed l.self.frame.held (drop l.place l.params) (drop l.place l.registers)) ≡ using l.initial.self.frame (handed l.initial.self.frame.held l.params l.registers);
  context : l.self.context ≡ l.initial.self.context;
  walk : l.self.walk ≡ l.initial.self.walk;
  gives_up : l.self.gives_up ≡ l.initial.self.gives_up;
  buffer : l.self.buffer ≡ l.initial.self.buffer;
}
