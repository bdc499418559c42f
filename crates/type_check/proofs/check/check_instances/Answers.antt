use Rattle.std.proofs.Common.{rules, ◌∙◌, sym}
use Rattle.type_check.proofs.Halves.{instances_step, instances_noted, instances_done}
use Rattle.type_check.proofs.check.check_instances.Goals as goal

pub loop-instance-preserved : goal.loop-instance-preserved
loop-instance-preserved c = record {
  number = search rules;
  tree = instances_step c.args.tables.now c.loop-instance.instances c.loop-instance.instance-index c.check_instance.new.instance c.instance-item.result (search rules) c.in_ok-check_instance.ensures.tree ∙ c.loop-instance.invariant.tree;
  faults = instances_noted c.args.tables.now c.loop-instance.instances c.loop-instance.instance-index c.loop-instance.number c.check_instance.new.instance c.instance-item.result c.loop-instance.least c.check_instance.new.least (search rules) c.loop-instance.invariant.number c.in_ok-check_instance.ensures.faults ∙ c.loop-instance.invariant.faults;
}

pub returns-clause-tree : goal.returns-clause-tree
returns-clause-tree c = sym (instances_done c.args.tables.now c.loop-instance.instances c.loop-instance.instance-index (search rules)) ∙ c.loop-instance.invariant.tree
