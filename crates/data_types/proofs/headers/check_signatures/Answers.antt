use Rattle.std.proofs.Common.{◌∙◌, refl, List, map}
use Rattle.fip_base.specs.CoreView.{static}
use Rattle.fip_base.specs.declared.core_form.Static.{Static}
use Rattle.data_types.specs.Faults.{signature_faults, signatures_faults}
use Rattle.data_types.proofs.Repeats.{walk_step}
use Rattle.data_types.proofs.headers.check_signatures.Goals as goal

pub loop-parameter-preserved : goal.loop-parameter-preserved
loop-parameter-preserved c =
    walk_step (λ (p : Static). signature_faults c.args.scope.now (static p)) (λ ps. signatures_faults c.args.scope.now (map static ps)) (λ (x : Static) (xs : List Static). refl) c.args.statics.now c.loop-parameter.parameter-index c.parameter-item.result c.loop-parameter.least c.check_signature.new.least c.loop-parameter-test.true c.parameter-item.is c.in_ok-check_signature.ensures
    ∙ c.loop-parameter.invariant
