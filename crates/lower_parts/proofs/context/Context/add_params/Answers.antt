use Rattle.std.proofs.Common.{rules, arith, ◌∙◌, ◌+◌}
use Rattle.std.proofs.lemmas.Option.{slice_get-get_or}
use Rattle.lower_parts.specs.Writing.{setting}
use Rattle.lower_parts.proofs.Starts.{params_to}
use Rattle.lower_parts.proofs.context.Context.add_params.Goals as goal

pub loop-param-preserved : goal.loop-param-preserved
loop-param-preserved c = record {
  place = search rules;
  rest = params_to (setting c.args.self.now) c.loop-param.frame c.add_param.new.frame c.args.params.now c.args.binders.now c.loop-param.param-index c.loop-param.place (c.loop-param.place + 1) _ c.loop-param.invariant.place (omega arith) (slice_get-get_or c.args.params.now c.loop-param.param-index _ c.loop-param-test.true) c.in_ok-add_param.ensures.added ∙ c.loop-param.invariant.rest;
  room = λ h. c.in_ok-add_param.ensures.room (c.loop-param.invariant.room h);
}
