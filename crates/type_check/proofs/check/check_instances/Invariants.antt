use Rattle.std.proofs.Common.{◌≡◌, map, drop}
use Rattle.fip_trees.specs.Least.{after}
use Rattle.fip_trees.specs.TreeView.{instance_of}
use Rattle.type_check.specs.Faults.{fill_instance, instances_faults}
use Rattle.type_check.proofs.Halves.{Instances_half}
use Rattle.type_check.proofs.check.check_instances.Given as goal

abbrev pub invariant-loop-instance : goal.invariant-loop-instance
invariant-loop-instance l = record {
  number : l.number ≡ l.instance-index;
  tree : Instances_half l.tables l.instance-index l.instances ≡ map (fill_instance l.tables) (map instance_of l.initial.instances);
  faults : after l.least (instances_faults l.tables l.instance-index (map instance_of (drop l.instance-index l.instances))) ≡ after l.initial.least (instances_faults l.tables 0 (map instance_of l.initial.instances));
}
