use Rattle.std.proofs.Common.{◌≡◌, ◌++◌, drop}
use Rattle.call_groups.specs.CallGraph.{rows}
use Rattle.fip_trees.specs.TreeView.{instances}
use Rattle.tail_groups.specs.Sites.{call_rows}
use Rattle.tail_groups.proofs.check.calls_of.Given as goal

abbrev pub invariant-loop-instance : goal.invariant-loop-instance
invariant-loop-instance l =
    rows l.all.items ++ call_rows (instances (drop l.instance-index l.instances)) ≡ call_rows (instances l.instances)
