use Rattle.std.proofs.Common.{◌≡◌, ◌∙◌, ◌+◌, suc, sym, ap, refl, List, ◌∷◌, map, drop, rules, add-one}
use Rattle.fip_base.specs.CoreView.{function}
use Rattle.fip_base.specs.declared.core_form.Function.{Function}
use Rattle.fip_trees.specs.Least.{after}
use Rattle.fip_trees.specs.Names.{names, with_meanings}
use Rattle.data_types.specs.Declarations.{function_meanings}
use Rattle.data_types.specs.Faults.{repeats, function_mentions}
use Rattle.data_types.proofs.Repeats.{repeats_next, with_next, drop_item}
use Rattle.data_types.proofs.names.add_functions.Goals as goal

pub loop-function-preserved : goal.loop-function-preserved
loop-function-preserved c =
    let rest = map function (drop (c.loop-function.function-index + 1) c.args.functions.now) in
    let here = sym (drop_item c.args.functions.now c.loop-function.function-index c.function-item.result c.loop-function-test.true c.function-item.is) in
    record {
      index = search rules;
      functions =
          ap (λ n. with_meanings c.add_function.new.self.functions (function_meanings n rest)) (add-one c.loop-function.place)
          ∙ with_next c.loop-function.names.functions c.add_function.new.self.functions (function_meanings (suc c.loop-function.place) rest) c.as_slice-name.result.now c.function-item.result.name c.loop-function.place c.loop-function.place c.as_slice-name.ensures.same refl c.in_ok-is_new.ensures.added
          ∙ ap (λ (xs : List Function). with_meanings c.loop-function.names.functions (function_meanings c.loop-function.place (map function xs))) here
          ∙ c.loop-function.invariant.functions;
      types = search rules;
      constructors = search rules;
      faults =
          repeats_next c.loop-function.names.functions c.add_function.new.self.functions c.as_slice-name.result.now c.function-item.result.name c.loop-function.place c.function-item.result.place (function_mentions rest) c.in_ok-is_new.is_new c.loop-function.least c.note_if.new.least c.as_slice-name.ensures.same c.in_ok-is_new.ensures.new c.in_ok-is_new.ensures.added c.in_ok-note_if.ensures
          ∙ ap (λ (xs : List Function). after c.loop-function.least (repeats (names c.loop-function.names.functions) (function_mentions (map function xs)))) here
          ∙ c.loop-function.invariant.faults;
    }
