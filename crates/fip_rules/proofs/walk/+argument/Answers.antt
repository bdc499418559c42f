use Rattle.std.proofs.Common.{rules, arith, drop, ◌+◌}
use Rattle.std.proofs.lemmas.Grind.{common_steps}
use Rattle.fip_trees.specs.TreeView.{argument, arguments}
use Rattle.fip_rules.proofs.Theorems.{go_skip}
use Rattle.fip_rules.proofs.Steps.{own_all_step}
use Rattle.fip_rules.proofs.Views.{own_literal}
use Rattle.fip_rules.proofs.walk.+argument.Goals as goal

pub own-returns-in-Literal : goal.own-returns-in-Literal
own-returns-in-Literal t c = own_literal c.args.state.now c.args.argument.now _ _ c.in-Literal.is

pub own_all-loop-argument-preserved : goal.own_all-loop-argument-preserved
own_all-loop-argument-preserved t c = own_all_step c.loop-argument.state c.own.new.state _ (argument c.argument-item.result) (arguments (drop (c.loop-argument.argument-index + 1) c.args.arguments.now)) (search rules) (grind (arith, common_steps))

pub own_all-returns : goal.own_all-returns
own_all-returns t c = grind (arith, common_steps, go_skip)
