use Rattle.std.proofs.Common.{◌≡◌, ◌++◌, None, drop, map}
use Rattle.fip_trees.specs.Least.{after}
use Rattle.fip_trees.specs.NeedsView.{needs_row}
use Rattle.fip_trees.specs.TreeView.{program, instances}
use Rattle.credit_check.specs.Tallies.{all_needs, all_notes}
use Rattle.credit_check.proofs.check.check_all.Given as goal

abbrev pub invariant-loop-instance : goal.invariant-loop-instance
invariant-loop-instance l = record {
  number : l.number ≡ l.instance-index;
  needs : map needs_row l.needs.items ++ all_needs (program l.program) (instances (drop l.instance-index l.instance-items)) ≡ all_needs (program l.program) (instances l.instance-items);
  noted : after l.least (all_notes (program l.program) l.number (instances (drop l.instance-index l.instance-items))) ≡ after None (all_notes (program l.program) 0 (instances l.instance-items));
}
