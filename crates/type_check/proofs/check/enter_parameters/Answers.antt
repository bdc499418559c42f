use Rattle.std.proofs.Common.{rules, ◌∙◌, sym, drop}
use Rattle.type_check.proofs.Halves.{params_step, params_entered, params_done, params_end}
use Rattle.type_check.proofs.check.enter_parameters.Goals as goal

pub loop-binder-preserved : goal.loop-binder-preserved
loop-binder-preserved c = record {
  index = search rules;
  binders = params_step c.args.params.now c.loop-binder.binders c.loop-binder.binder-index c.loop-binder.index c.enter_parameter.new.binder c.binder-item.result (search rules) c.loop-binder.invariant.index c.in_ok-enter_parameter.ensures.binder ∙ c.loop-binder.invariant.binders;
  scope = params_entered c.args.params.now c.loop-binder.binders c.loop-binder.binder-index c.loop-binder.index c.enter_parameter.new.binder c.binder-item.result c.loop-binder.scope c.enter_parameter.new.scope (search rules) c.loop-binder.invariant.index c.in_ok-enter_parameter.ensures.scope ∙ c.loop-binder.invariant.scope;
}

pub returns-clause-binders : goal.returns-clause-binders
returns-clause-binders c = sym (params_done c.args.params.now c.loop-binder.binders c.loop-binder.binder-index (search rules)) ∙ c.loop-binder.invariant.binders

pub returns-clause-scope : goal.returns-clause-scope
returns-clause-scope c = params_end (drop c.loop-binder.binder-index c.args.params.now) c.loop-binder.binders c.loop-binder.binder-index c.loop-binder.scope _ (search rules) c.loop-binder.invariant.scope
