use Rattle.std.proofs.Common.{◌≡◌, ◌∙◌, ◌+◌, suc, sym, ap, List, ◌∷◌, map, drop, rules, add-one}
use Rattle.fip_base.specs.CoreView.{data_type, data_constructor}
use Rattle.fip_base.specs.declared.core_form.Data.{Data}
use Rattle.fip_base.specs.declared.core_form.DataConstructor.{DataConstructor}
use Rattle.fip_trees.specs.Least.{after}
use Rattle.fip_trees.specs.Names.{names, with_meanings}
use Rattle.data_types.specs.Declarations.{row_meanings, constructor_meanings}
use Rattle.data_types.specs.Faults.{repeats, row_mentions, constructor_mentions}
use Rattle.data_types.proofs.Repeats.{repeats_row, with_meanings_append, drop_item}
use Rattle.data_types.proofs.names.add_constructors.Goals as goal

pub loop-data-preserved : goal.loop-data-preserved
loop-data-preserved c =
    let rest = map data_type (drop (c.loop-data.data-index + 1) c.args.types.now) in
    let here = sym (drop_item c.args.types.now c.loop-data.data-index c.data-item.result c.loop-data-test.true c.data-item.is) in
    let row = map data_constructor c.data-item.result.constructors.items in
    let old = c.loop-data.names.constructors in
    let new = c.add_row.new.names.constructors in
    let n = c.loop-data.number in
    let added : new ≡ with_meanings old (row_meanings n 0 row) = c.in_ok-add_row.ensures.constructors ∙ ap (λ (ks : List DataConstructor). with_meanings old (row_meanings n 0 (map data_constructor ks))) c.deref.ensures.value in
    let noted : c.add_row.new.least ≡ after c.loop-data.least (repeats (names old) (row_mentions row)) = c.in_ok-add_row.ensures.faults ∙ ap (λ (ks : List DataConstructor). after c.loop-data.least (repeats (names old) (row_mentions (map data_constructor ks)))) c.deref.ensures.value in
    record {
      constructors =
          ap (λ m. with_meanings new (constructor_meanings m rest)) (c.in_ok-number.ensures ∙ add-one n)
          ∙ ap (λ es. with_meanings es (constructor_meanings (suc n) rest)) added
          ∙ sym (with_meanings_append (row_meanings n 0 row) (constructor_meanings (suc n) rest) old)
          ∙ ap (λ (xs : List Data). with_meanings old (constructor_meanings n (map data_type xs))) here
          ∙ c.loop-data.invariant.constructors;
      types = search rules;
      functions = search rules;
      faults =
          repeats_row n row (constructor_mentions rest) old new c.loop-data.least c.add_row.new.least added noted
          ∙ ap (λ (xs : List Data). after c.loop-data.least (repeats (names old) (constructor_mentions (map data_type xs)))) here
          ∙ c.loop-data.invariant.faults;
    }
