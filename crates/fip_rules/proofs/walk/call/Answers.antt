use Rattle.std.proofs.Common.{rules}
use Rattle.fip_trees.specs.TreeView.{arguments}
use Rattle.fip_rules.specs.Shapes.{called}
use Rattle.fip_rules.specs.Views.{world_of}
use Rattle.fip_rules.proofs.Steps.{call_step}
use Rattle.fip_rules.proofs.walk.call.Goals as goal

pub returns : goal.returns
returns c = call_step c.args.state.now c.note_callee.new.state c.pass_all.new.state (world_of c.args.world.now) (called (world_of c.args.world.now) c.args.callee c.args.place c.args.name.now) c.args.callee (arguments c.args.arguments.now) (search rules) (search rules)
