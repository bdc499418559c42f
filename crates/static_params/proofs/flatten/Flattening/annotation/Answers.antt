use Rattle.std.proofs.Common.{◌∙◌, Some, Option, option_map, ap, sym}
use Rattle.fip_base.specs.CoreView as V
use Rattle.fip_base.specs.declared.core_form.Written.{Written}
use Rattle.static_params.specs.FlatView.{making, type_in}
use Rattle.static_params.proofs.Made.{stays_same}
use Rattle.static_params.proofs.flatten.Flattening.annotation.Goals as goal

pub returns-in-None-clause-stays : goal.returns-in-None-clause-stays
returns-in-None-clause-stays c = λ m. stays_same c.args.self.now m

pub returns-in_ok-ty-in-Some-clause-flat : goal.returns-in_ok-ty-in-Some-clause-flat
returns-in_ok-ty-in-Some-clause-flat c = λ m.
    let w = making c.args.self.now in
    ap (λ n. Some n) (c.in_ok-ty-in-Some.ensures.flat m)
    ∙ sym (ap (λ (o : Option Written). option_map (type_in w) (option_map V.written o)) c.in-Some.is)
