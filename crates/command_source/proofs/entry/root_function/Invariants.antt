use Rattle.std.proofs.Common.{◌≡◌, ◌≤◌, drop}
use Rattle.fip_trees.specs.TreeView.{instances}
use Rattle.command_source.specs.FunctionNumbers.{root_function}
use Rattle.command_source.proofs.entry.root_function.Given as goal

abbrev pub invariant-loop-instance : goal.invariant-loop-instance
invariant-loop-instance l = record {
  rest : root_function l.number l.name (instances (drop l.instance-index l.instances)) ≡ root_function 0 l.name (instances l.instances);
  few : l.number ≤ l.instance-index;
}
