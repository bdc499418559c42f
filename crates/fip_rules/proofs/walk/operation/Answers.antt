use Rattle.std.proofs.Common.{rules}
use Rattle.fip_trees.specs.TreeView.{argument}
use Rattle.fip_rules.specs.Shapes.{owning}
use Rattle.fip_rules.specs.Stands.{marks}
use Rattle.fip_rules.proofs.Steps.{owning_step}
use Rattle.fip_rules.proofs.walk.operation.Goals as goal

pub returns : goal.returns
returns c = owning_step c.args.state.now c.own.new.state c.own-2.new.state (owning (marks c.args.state.now) (argument c.args.left.now)) (argument c.args.right.now) (search rules) (search rules)
