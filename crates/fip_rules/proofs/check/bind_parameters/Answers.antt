use Rattle.std.proofs.Common.{rules, arith, drop, ◌+◌}
use Rattle.std.proofs.lemmas.Grind.{common_steps}
use Rattle.fip_rules.specs.Views.{world_of}
use Rattle.fip_rules.proofs.Steps.{parameter_step, drop_next}
use Rattle.fip_rules.proofs.check.bind_parameters.Goals as goal

pub loop-binder-preserved : goal.loop-binder-preserved
loop-binder-preserved c = record {
  place = search rules;
  state = rw (drop_next c.loop-binder.place c.args.params.now) (parameter_step c.loop-binder.state c.bind_parameter.new.state _ (world_of c.args.world.now) (drop c.loop-binder.place c.args.params.now) c.binder-item.result (drop (c.loop-binder.binder-index + 1) c.args.binders.now) (search rules) (grind (arith, common_steps)));
}
