use Rattle.std.proofs.Common.{◌≡◌, drop}
use Rattle.lower_parts.specs.lowering_relation.Known.{using, used_all}
use Rattle.cell_lower.proofs.lowerer.Lowerer.use_up_all.Given as goal

abbrev pub invariant-loop-register : goal.invariant-loop-register
invariant-loop-register l = record {
  used : using l.self.frame (used_all l.self.frame.held (drop l.register-index l.registers)) ≡ using l.initial.self.frame (used_all l.initial.self.frame.held l.registers);
  context : l.self.context ≡ l.initial.self.context;
  walk : l.self.walk ≡ l.initial.self.walk;
  gives_up : l.self.gives_up ≡ l.initial.self.gives_up;
  buffer : l.self.buffer ≡ l.initial.self.buffer;
}
