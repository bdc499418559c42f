use Rattle.std.proofs.Common.{◌≡◌, ◌++◌, map, drop}
use Rattle.fip_trees.specs.TreeView.{instance_of}
use Rattle.type_check.specs.World.{head_of}
use Rattle.type_check.proofs.tables.heads.Given as goal

abbrev pub invariant-loop-instance : goal.invariant-loop-instance
invariant-loop-instance l = l.heads.items ++ map head_of (map instance_of (drop l.instance-index l.instances)) ≡ map head_of (map instance_of l.instances)
