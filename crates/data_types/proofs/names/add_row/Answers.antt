use Rattle.std.proofs.Common.{◌≡◌, ◌∙◌, ◌+◌, suc, sym, ap, refl, List, ◌∷◌, map, drop, rules, add-one}
use Rattle.fip_base.specs.CoreView.{data_constructor}
use Rattle.fip_base.specs.declared.core_form.DataConstructor.{DataConstructor}
use Rattle.fip_trees.specs.Least.{after}
use Rattle.fip_trees.specs.Names.{names, with_meanings}
use Rattle.data_types.specs.Declarations.{row_meanings}
use Rattle.data_types.specs.Faults.{repeats, row_mentions}
use Rattle.data_types.proofs.Repeats.{repeats_next, with_next, drop_item}
use Rattle.data_types.proofs.names.add_row.Goals as goal

pub loop-constructor-preserved : goal.loop-constructor-preserved
loop-constructor-preserved c =
    let rest = map data_constructor (drop (c.loop-constructor.constructor-index + 1) c.args.constructors.now) in
    let here = sym (drop_item c.args.constructors.now c.loop-constructor.constructor-index c.constructor-item.result c.loop-constructor-test.true c.constructor-item.is) in
    record {
      constructors =
          ap (λ n. with_meanings c.add_constructor.new.self.constructors (row_meanings c.args.owner n rest)) (c.in_ok-number.ensures ∙ add-one c.loop-constructor.number)
          ∙ with_next c.loop-constructor.names.constructors c.add_constructor.new.self.constructors (row_meanings c.args.owner (suc c.loop-constructor.number) rest) c.as_slice-name.result.now c.constructor-item.result.name _ _ c.as_slice-name.ensures.same refl c.in_ok-is_new.ensures.added
          ∙ ap (λ (xs : List DataConstructor). with_meanings c.loop-constructor.names.constructors (row_meanings c.args.owner c.loop-constructor.number (map data_constructor xs))) here
          ∙ c.loop-constructor.invariant.constructors;
      types = search rules;
      functions = search rules;
      faults =
          repeats_next c.loop-constructor.names.constructors c.add_constructor.new.self.constructors c.as_slice-name.result.now c.constructor-item.result.name _ c.constructor-item.result.place (row_mentions rest) c.in_ok-is_new.is_new c.loop-constructor.least c.note_if.new.least c.as_slice-name.ensures.same c.in_ok-is_new.ensures.new c.in_ok-is_new.ensures.added c.in_ok-note_if.ensures
          ∙ ap (λ (xs : List DataConstructor). after c.loop-constructor.least (repeats (names c.loop-constructor.names.constructors) (row_mentions (map data_constructor xs)))) here
          ∙ c.loop-constructor.invariant.faults;
    }
