use Rattle.std.proofs.Common.{◌∙◌, ◌+◌, sym, ap, List, map, drop}
use Rattle.fip_base.specs.CoreView.{parameter}
use Rattle.fip_base.specs.declared.core_form.Parameter.{Parameter}
use Rattle.fip_trees.specs.Least.{after}
use Rattle.fip_trees.specs.Names.{names}
use Rattle.data_types.specs.Faults.{repeats, parameter_mentions}
use Rattle.data_types.proofs.Repeats.{repeats_next, drop_item}
use Rattle.data_types.proofs.headers.note_parameter_repeats.Goals as goal

pub loop-parameter-preserved : goal.loop-parameter-preserved
loop-parameter-preserved c =
    let rest = map parameter (drop (c.loop-parameter.parameter-index + 1) c.args.parameters.now) in
    let here = sym (drop_item c.args.parameters.now c.loop-parameter.parameter-index c.parameter-item.result c.loop-parameter-test.true c.parameter-item.is) in
    repeats_next c.loop-parameter.seen c.add.new.self c.as_slice-name.result.now c.parameter-item.result.binder.name _ c.parameter-item.result.binder.place (parameter_mentions rest) c.in_ok-is_new.is_new c.loop-parameter.least c.note_if.new.least c.as_slice-name.ensures.same c.in_ok-is_new.ensures.new c.in_ok-is_new.ensures.added c.in_ok-note_if.ensures
    ∙ ap (λ (xs : List Parameter). after c.loop-parameter.least (repeats (names c.loop-parameter.seen) (parameter_mentions (map parameter xs)))) here
    ∙ c.loop-parameter.invariant
