use Rattle.std.proofs.Common.{◌≡◌, ◌+◌, drop}
use Rattle.fip_trees.specs.TreeView.{arguments}
use Rattle.tail_groups.specs.Registers.{in_arguments}
use Rattle.tail_groups.proofs.count.Count.+argument.Given as goal

abbrev pub invariant-arguments-loop-argument : goal.invariant-arguments-loop-argument
invariant-arguments-loop-argument l =
    l.self.number + in_arguments (arguments (drop l.argument-index l.arguments)) ≡ l.initial.self.number + in_arguments (arguments l.arguments)
