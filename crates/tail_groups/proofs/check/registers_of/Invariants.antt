use Rattle.std.proofs.Common.{◌≡◌, ◌++◌, map, drop}
use Rattle.fip_trees.specs.TreeView.{instances}
use Rattle.tail_groups.specs.Found.{counted}
use Rattle.tail_groups.proofs.check.registers_of.Given as goal

abbrev pub invariant-loop-instance : goal.invariant-loop-instance
invariant-loop-instance l =
    l.counts.items ++ map counted (instances (drop l.instance-index l.instances)) ≡ map counted (instances l.instances)
