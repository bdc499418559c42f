use Rattle.std.proofs.Common.{◌≡◌, drop}
use Rattle.lower_parts.specs.lowering_relation.LoweredBodies.{with_names}
use Rattle.cell_lower.proofs.lowerer.Lowerer.name_all.Given as goal

abbrev pub invariant-loop-binder : goal.invariant-loop-binder
invariant-loop-binder l = record {
  place : l.place ≡ l.binder-index;
  named : with_names l.self.frame (drop l.place l.binders) (drop l.place l.registers) ≡ with_names l.initial.self.frame l.binders l.registers;
  context : l.self.context ≡ l.initial.self.context;
  gives_up : l.self.gives_up ≡ l.initial.self.gives_up;
  walk : l.self.walk ≡ l.initial.self.walk;
  buffer : l.self.buffer ≡ l.initial.self.buffer;
}
