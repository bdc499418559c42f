use Rattle.std.proofs.Common.{rules}
use Rattle.fip_trees.specs.TreeView.{instance_of}
use Rattle.fip_rules.specs.Views.{world_of}
use Rattle.fip_rules.proofs.Steps.{instance_whole}
use Rattle.fip_rules.proofs.check.check_instance.Goals as goal

pub returns : goal.returns
returns c = instance_whole c.new-state.result c.bind_parameters.new.state c.block.new.state c.leave.new.self (world_of c.args.world.now) c.args.number c.is_fip.result (instance_of c.args.instance.now) c.args.least c.into_least.result c.requires (search rules) c.is_fip.ensures.fip c.new-state.ensures.start (search rules) (search rules) (search rules) c.into_least.ensures.found
