use Rattle.std.proofs.Common.{◌≡◌, ◌∙◌, ◌+◌, suc, sym, ap, List, ◌∷◌, map, drop, length, rules, add-one}
use Rattle.std.proofs.lemmas.List.{length-map}
use Rattle.fip_base.specs.CoreView.{data_type, type_name}
use Rattle.fip_base.specs.declared.core_form.Data.{Data}
use Rattle.fip_trees.specs.Least.{after}
use Rattle.fip_trees.specs.Names.{names, with_meanings}
use Rattle.data_types.specs.Declarations.{type_meanings}
use Rattle.data_types.specs.Faults.{repeats, type_mentions}
use Rattle.data_types.proofs.Repeats.{head, repeats_next, with_next, drop_item}
use Rattle.data_types.proofs.names.add_types.Goals as goal

pub loop-data-preserved : goal.loop-data-preserved
loop-data-preserved c =
    let rest = map data_type (drop (c.loop-data.data-index + 1) c.args.types.now) in
    let here = sym (drop_item c.args.types.now c.loop-data.data-index c.data-item.result c.loop-data-test.true c.data-item.is) in
    let parameters = c.data-item.result.parameters in
    record {
      types =
          ap (λ n. with_meanings c.add_type.new.self.types (type_meanings n rest)) (c.in_ok-number.ensures ∙ add-one c.loop-data.number)
          ∙ with_next c.loop-data.names.types c.add_type.new.self.types (type_meanings (suc c.loop-data.number) rest) c.as_slice-name.result.now c.data-item.result.name _ (head c.loop-data.number (length (map type_name parameters.items))) c.as_slice-name.ensures.same (ap (head c.loop-data.number) (c.len.ensures ∙ parameters.ok.0 ∙ sym (length-map parameters.items type_name))) c.in_ok-is_new.ensures.added
          ∙ ap (λ (xs : List Data). with_meanings c.loop-data.names.types (type_meanings c.loop-data.number (map data_type xs))) here
          ∙ c.loop-data.invariant.types;
      constructors = search rules;
      functions = search rules;
      faults =
          repeats_next c.loop-data.names.types c.add_type.new.self.types c.as_slice-name.result.now c.data-item.result.name _ c.data-item.result.place (type_mentions rest) c.in_ok-is_new.is_new c.loop-data.least c.note_if.new.least c.as_slice-name.ensures.same c.in_ok-is_new.ensures.new c.in_ok-is_new.ensures.added c.in_ok-note_if.ensures
          ∙ ap (λ (xs : List Data). after c.loop-data.least (repeats (names c.loop-data.names.types) (type_mentions (map data_type xs)))) here
          ∙ c.loop-data.invariant.faults;
    }
