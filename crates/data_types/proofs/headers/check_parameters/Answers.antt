use Rattle.std.proofs.Common.{◌∙◌, refl, List, map}
use Rattle.fip_base.specs.CoreView.{parameter}
use Rattle.fip_base.specs.declared.core_form.Parameter.{Parameter}
use Rattle.data_types.specs.Faults.{written_faults, parameters_faults}
use Rattle.data_types.proofs.Repeats.{walk_step}
use Rattle.data_types.proofs.headers.check_parameters.Goals as goal

pub loop-parameter-preserved : goal.loop-parameter-preserved
loop-parameter-preserved c =
    walk_step (λ (p : Parameter). written_faults c.args.scope.now (parameter p).type) (λ ps. parameters_faults c.args.scope.now (map parameter ps)) (λ (x : Parameter) (xs : List Parameter). refl) c.args.parameters.now c.loop-parameter.parameter-index c.parameter-item.result c.loop-parameter.least c.look_up.new.least c.loop-parameter-test.true c.parameter-item.is c.in_ok-look_up.ensures.faults
    ∙ c.loop-parameter.invariant
