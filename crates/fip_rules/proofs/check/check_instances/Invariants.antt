use Rattle.std.proofs.Common.{◌≡◌, None, drop, map}
use Rattle.fip_trees.specs.Least.{after}
use Rattle.fip_trees.specs.TreeView.{instances}
use Rattle.fip_rules.specs.Marks.{reported}
use Rattle.fip_rules.specs.Noted.{all_notes}
use Rattle.fip_rules.specs.Views.{flag}
use Rattle.fip_rules.proofs.check.check_instances.Given as goal

abbrev pub invariant-loop-instance : goal.invariant-loop-instance
invariant-loop-instance l = record {
  number : l.number ≡ l.instance-index;
  least : after l.least (map reported (all_notes (flag l.scalars) (instances l.instances) l.number (instances (drop l.instance-index l.instances)))) ≡ after None (map reported (all_notes (flag l.scalars) (instances l.instances) 0 (instances l.instances)));
}
