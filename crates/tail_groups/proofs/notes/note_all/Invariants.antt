use Rattle.std.proofs.Common.{◌≡◌, None, drop}
use Rattle.fip_trees.specs.Least.{after}
use Rattle.fip_trees.specs.TreeView.{instances}
use Rattle.tail_groups.specs.Notes.{all_notes}
use Rattle.tail_groups.proofs.notes.note_all.Given as goal

abbrev pub invariant-loop-instance : goal.invariant-loop-instance
invariant-loop-instance l = record {
  number : l.number ≡ l.instance-index;
  least : after l.least (all_notes l.groups l.number (instances (drop l.instance-index l.instances))) ≡ after None (all_notes l.groups 0 (instances l.instances));
}
