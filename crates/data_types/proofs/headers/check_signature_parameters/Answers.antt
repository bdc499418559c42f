use Rattle.std.proofs.Common.{◌∙◌, refl, List, map}
use Rattle.fip_base.specs.CoreView.{signature_parameter}
use Rattle.fip_base.specs.declared.core_form.SignatureParameter.{SignatureParameter}
use Rattle.data_types.specs.Faults.{written_faults, signature_parameters_faults}
use Rattle.data_types.proofs.Repeats.{walk_step}
use Rattle.data_types.proofs.headers.check_signature_parameters.Goals as goal

pub loop-parameter-preserved : goal.loop-parameter-preserved
loop-parameter-preserved c =
    walk_step (λ (p : SignatureParameter). written_faults c.args.scope.now (signature_parameter p).type) (λ ps. signature_parameters_faults c.args.scope.now (map signature_parameter ps)) (λ (x : SignatureParameter) (xs : List SignatureParameter). refl) c.args.parameters.now c.loop-parameter.parameter-index c.parameter-item.result c.loop-parameter.least c.look_up.new.least c.loop-parameter-test.true c.parameter-item.is c.in_ok-look_up.ensures.faults
    ∙ c.loop-parameter.invariant
