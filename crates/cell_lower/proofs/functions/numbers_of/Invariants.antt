use Rattle.std.proofs.Common.{◌≡◌, ◌≤◌, drop, ◌++◌}
use Rattle.fip_trees.specs.TreeView.{instances}
use Rattle.cell_lower.proofs.Programs.{numbers_from}
use Rattle.cell_lower.proofs.functions.numbers_of.Given as goal

abbrev pub invariant-loop-instance : goal.invariant-loop-instance
invariant-loop-instance l = record {
  numbers : l.numbers.items ++ numbers_from l.next (instances (drop l.instance-index l.instance-items)) ≡ numbers_from 0 (instances l.instance-items);
  few : l.next ≤ l.instance-index;
}
