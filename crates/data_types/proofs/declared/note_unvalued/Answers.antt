use Rattle.std.proofs.Common.{◌≡◌, ◌∙◌, ◌+◌, suc, not, sym, ap, rules, List, map, drop, slice_get, add-one}
use Rattle.fip_language.specs.Core.{Name}
use Rattle.fip_language.specs.declared.rule.Rule.TheVariants.{E13}
use Rattle.fip_base.specs.CoreView.{data_type}
use Rattle.fip_base.specs.declared.core_form.Data.{Data}
use Rattle.fip_trees.specs.Least.{after}
use Rattle.fip_trees.proofs.Leasts.{after-append}
use Rattle.data_types.specs.Answers.{value_faults}
use Rattle.data_types.specs.Faults.{broken, when}
use Rattle.data_types.specs.Marks.{true_of}
use Rattle.data_types.proofs.Repeats.{drop_item}
use Rattle.data_types.proofs.declared.note_unvalued.Goals as goal

pub loop-data-preserved : goal.loop-data-preserved
loop-data-preserved c =
    let rest = map data_type (drop (c.loop-data.data-index + 1) c.args.declared.now) in
    let here = sym (drop_item c.args.declared.now c.loop-data.data-index c.data-item.result c.loop-data-test.true c.data-item.is) in
    let i = c.loop-data.place in
    let flags = c.args.valued.now in
    let d = c.data-item.result in
    let l = c.loop-data.least in
    record {
      place = search rules;
      faults =
          ap (λ n. after c.note_if.new.least (value_faults n flags rest)) (add-one i)
          ∙ ap (λ m. after m (value_faults (suc i) flags rest)) (c.in_ok-note_if.ensures ∙ ap (λ b. after l (when (not b) (broken E13 d.place c.as_slice.result.now))) c.is_true-is_broken.ensures ∙ ap (λ (n : Name). after l (when (not (true_of (slice_get flags i))) (broken E13 d.place n))) c.as_slice.ensures.same)
          ∙ sym (after-append l (when (not (true_of (slice_get flags i))) (broken E13 d.place d.name)) (value_faults (suc i) flags rest))
          ∙ ap (λ (xs : List Data). after l (value_faults i flags (map data_type xs))) here
          ∙ c.loop-data.invariant.faults;
    }
