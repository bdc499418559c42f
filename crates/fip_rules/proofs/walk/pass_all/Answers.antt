use Rattle.std.proofs.Common.{rules, arith, drop, ◌+◌}
use Rattle.std.proofs.lemmas.Grind.{common_steps}
use Rattle.fip_trees.specs.TreeView.{argument, arguments}
use Rattle.fip_rules.specs.Views.{world_of}
use Rattle.fip_rules.proofs.Theorems.{go_skip}
use Rattle.fip_rules.proofs.Steps.{pass_all_next}
use Rattle.fip_rules.proofs.walk.pass_all.Goals as goal

pub loop-argument-preserved : goal.loop-argument-preserved
loop-argument-preserved c = record {
  place = search rules;
  state = pass_all_next c.loop-argument.state c.pass.new.state _ (world_of c.args.world.now) c.args.callee c.loop-argument.place c.lends.result (argument c.argument-item.result) (arguments (drop (c.loop-argument.argument-index + 1) c.args.arguments.now)) (search rules) (search rules) (grind (arith, common_steps));
}

pub returns : goal.returns
returns c = grind (arith, common_steps, go_skip)
