use Rattle.std.proofs.Common.{◌≡◌, ◌++◌, drop}
use Rattle.fip_trees.specs.TreeView.{instances}
use Rattle.command_source.specs.FunctionNumbers.{function_stacks}
use Rattle.command_source.proofs.stacks.function_stacks.Given as goal

abbrev pub invariant-loop-number : goal.invariant-loop-number
invariant-loop-number l = record {
  rest : l.stacks.items ++ function_stacks l.groups l.number (instances (drop l.number l.instances)) ≡ function_stacks l.groups 0 (instances l.instances);
}
