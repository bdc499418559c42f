use Rattle.std.proofs.Common.{◌∙◌, ◌+◌, not, sym, ap, List, map, drop}
use Rattle.fip_language.specs.declared.rule.Rule.TheVariants.{E10}
use Rattle.fip_base.specs.CoreView.{static}
use Rattle.fip_base.specs.declared.core_form.Static.{Static}
use Rattle.fip_trees.specs.Least.{after}
use Rattle.fip_trees.specs.Names.{names}
use Rattle.data_types.specs.Faults.{broken, when, repeats, static_mention, static_mentions}
use Rattle.data_types.proofs.Repeats.{repeats_next, drop_item}
use Rattle.data_types.proofs.headers.note_static_repeats.Goals as goal

pub loop-parameter-preserved : goal.loop-parameter-preserved
loop-parameter-preserved c =
    let rest = map static (drop (c.loop-parameter.parameter-index + 1) c.args.statics.now) in
    let here = sym (drop_item c.args.statics.now c.loop-parameter.parameter-index c.parameter-item.result c.loop-parameter-test.true c.parameter-item.is) in
    let mentioned = static_mention (static c.parameter-item.result) in
    repeats_next c.loop-parameter.seen c.add.new.self c.name_of-name.result.now mentioned.name _ mentioned.place (static_mentions rest) c.in_ok-is_new.is_new c.loop-parameter.least c.note_if.new.least c.name_of-name.ensures c.in_ok-is_new.ensures.new c.in_ok-is_new.ensures.added (c.in_ok-note_if.ensures ∙ ap (λ p. after c.loop-parameter.least (when (not c.in_ok-is_new.is_new) (broken E10 p c.name_of-name.result.now))) c.place_of.ensures)
    ∙ ap (λ (xs : List Static). after c.loop-parameter.least (repeats (names c.loop-parameter.seen) (static_mentions (map static xs)))) here
    ∙ c.loop-parameter.invariant
