use Rattle.std.proofs.Common.{◌≡◌, None, drop}
use Rattle.fip_trees.specs.Least.{after}
use Rattle.fip_trees.specs.TreeView.{program, instances}
use Rattle.cell_lower.specs.LimitNotes.{notes_from}
use Rattle.cell_lower.proofs.limits.note_limits.Given as goal

abbrev pub invariant-loop-instance : goal.invariant-loop-instance
invariant-loop-instance l = record {
  number : l.number ≡ l.instance-index;
  noted : after l.least (notes_from (program l.program).types l.groups l.number (instances (drop l.instance-index l.instance-items))) ≡ after None (notes_from (program l.program).types l.groups 0 (instances l.instance-items));
}
