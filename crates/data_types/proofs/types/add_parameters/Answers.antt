use Rattle.std.proofs.Common.{◌∙◌, ◌+◌, suc, sym, ap, refl, List, map, drop, add-one}
use Rattle.fip_base.specs.CoreView.{type_name}
use Rattle.fip_base.specs.declared.core_form.TypeName.{TypeName}
use Rattle.fip_trees.specs.Least.{after}
use Rattle.fip_trees.specs.Names.{names, with_meanings}
use Rattle.data_types.specs.Declarations.{parameter_meanings}
use Rattle.data_types.specs.Faults.{repeats, type_name_mentions}
use Rattle.data_types.proofs.Repeats.{repeats_next, with_next, drop_item}
use Rattle.data_types.proofs.types.add_parameters.Goals as goal

pub loop-parameter-preserved : goal.loop-parameter-preserved
loop-parameter-preserved c =
    let rest = map type_name (drop (c.loop-parameter.parameter-index + 1) c.args.list.now) in
    let here = sym (drop_item c.args.list.now c.loop-parameter.parameter-index c.parameter-item.result c.loop-parameter-test.true c.parameter-item.is) in
    record {
      parameters =
          ap (λ n. with_meanings c.add.new.self (parameter_meanings n rest)) (c.in_ok-number.ensures ∙ add-one c.loop-parameter.number)
          ∙ with_next c.loop-parameter.parameters c.add.new.self (parameter_meanings (suc c.loop-parameter.number) rest) c.as_slice-name.result.now c.parameter-item.result.name c.loop-parameter.number c.loop-parameter.number c.as_slice-name.ensures.same refl c.in_ok-is_new.ensures.added
          ∙ ap (λ (xs : List TypeName). with_meanings c.loop-parameter.parameters (parameter_meanings c.loop-parameter.number (map type_name xs))) here
          ∙ c.loop-parameter.invariant.parameters;
      faults =
          repeats_next c.loop-parameter.parameters c.add.new.self c.as_slice-name.result.now c.parameter-item.result.name c.loop-parameter.number c.parameter-item.result.place (type_name_mentions rest) c.in_ok-is_new.is_new c.loop-parameter.least c.note_if.new.least c.as_slice-name.ensures.same c.in_ok-is_new.ensures.new c.in_ok-is_new.ensures.added c.in_ok-note_if.ensures
          ∙ ap (λ (xs : List TypeName). after c.loop-parameter.least (repeats (names c.loop-parameter.parameters) (type_name_mentions (map type_name xs)))) here
          ∙ c.loop-parameter.invariant.faults;
    }
