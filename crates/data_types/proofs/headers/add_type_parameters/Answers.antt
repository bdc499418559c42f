use Rattle.std.proofs.Common.{◌∙◌, ◌+◌, suc, sym, ap, List, map, drop, add-one}
use Rattle.fip_base.specs.CoreView.{static}
use Rattle.fip_base.specs.declared.core_form.Static.{Static}
use Rattle.fip_trees.specs.Names.{with_meanings}
use Rattle.data_types.specs.Declarations.{static_meanings}
use Rattle.data_types.proofs.Repeats.{static_next, drop_item}
use Rattle.data_types.proofs.headers.add_type_parameters.Goals as goal

pub loop-parameter-preserved : goal.loop-parameter-preserved
loop-parameter-preserved c =
    let rest = map static (drop (c.loop-parameter.parameter-index + 1) c.args.statics.now) in
    let here = sym (drop_item c.args.statics.now c.loop-parameter.parameter-index c.parameter-item.result c.loop-parameter-test.true c.parameter-item.is) in
    let n = c.loop-parameter.number in
    let new = c.add_type_parameter.new.parameters in
    ap (λ m. with_meanings new (static_meanings m rest)) (c.in_ok-number.ensures ∙ add-one n)
    ∙ ap (λ es. with_meanings es (static_meanings (suc n) rest)) c.in_ok-add_type_parameter.ensures
    ∙ static_next c.loop-parameter.parameters n (static c.parameter-item.result) rest
    ∙ ap (λ (xs : List Static). with_meanings c.loop-parameter.parameters (static_meanings n (map static xs))) here
    ∙ c.loop-parameter.invariant
