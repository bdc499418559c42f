use Rattle.std.proofs.Common.{◌≡◌, drop}
use Rattle.fip_trees.specs.TreeView.{arguments}
use Rattle.lower_parts.specs.Writing.{setting, Follow}
use Rattle.cell_lower.proofs.lowerer.Lowerer.+value.Given as goal

abbrev pub invariant-values-loop-argument : goal.invariant-values-loop-argument
invariant-values-loop-argument l = record {
  context : l.self.context ≡ l.initial.self.context;
  walk : l.self.walk ≡ l.initial.self.walk;
  gives_up : l.self.gives_up ≡ l.initial.self.gives_up;
  rest : Follow (setting l.initial.self.context.now) l.initial.self.frame l.initial.self.buffer (arguments l.arguments) l.self.frame l.self.buffer (arguments (drop l.argument-index l.arguments)) l.registers.items;
}
