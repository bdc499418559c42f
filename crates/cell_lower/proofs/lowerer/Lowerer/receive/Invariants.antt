use Rattle.std.proofs.Common.{◌≡◌, drop}
use Rattle.lower_parts.specs.lowering_relation.Known.{using}
use Rattle.lower_parts.specs.lowering_relation.LoweredBodies.{received}
use Rattle.lower_parts.specs.Writing.{setting}
use Rattle.cell_lower.proofs.lowerer.Lowerer.receive.Given as goal

abbrev pub invariant-loop-ty : goal.invariant-loop-ty
invariant-loop-ty l = record {
  place : l.place ≡ l.ty-index;
  received : using l.self.frame (received (setting l.initial.self.context.now) l.self.frame.held (drop l.place l.types) (drop l.place l.destinations)) ≡ using l.initial.self.frame (received (setting l.initial.self.context.now) l.initial.self.frame.held l.types l.destinations);
  context : l.self.context ≡ l.initial.self.context;
  gives_up : l.self.gives_up ≡ l.initial.self.gives_up;
  walk : l.self.walk ≡ l.initial.self.walk;
  buffer : l.self.buffer ≡ l.initial.self.buffer;
}
