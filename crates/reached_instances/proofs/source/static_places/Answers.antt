use Rattle.std.proofs.Common.{◌∙◌, ◌+◌, suc, sym, ap, refl, List, map, drop, rules, add-one}
use Rattle.fip_base.specs.CoreView.{static}
use Rattle.fip_base.specs.declared.core_form.Static.{Static}
use Rattle.fip_trees.specs.Names.{with_meanings}
use Rattle.closed_types.specs.Source.{static_meanings, static_name}
use Rattle.closed_types.proofs.Lists.{with_next, drop_item}
use Rattle.reached_instances.proofs.source.static_places.Goals as goal

pub loop-parameter-preserved : goal.loop-parameter-preserved
loop-parameter-preserved c =
    let rest = map static (drop (c.loop-parameter.parameter-index + 1) c.args.statics.now) in
    let here = sym (drop_item c.args.statics.now c.loop-parameter.parameter-index c.parameter-item.result c.loop-parameter-test.true c.parameter-item.is) in
    record {
      index = search rules;
      places =
          ap (λ n. with_meanings c.add.new.self (static_meanings n rest)) (add-one c.loop-parameter.place)
          ∙ with_next c.loop-parameter.places c.add.new.self (static_meanings (suc c.loop-parameter.place) rest) c.name_of.result.now (static_name (static c.parameter-item.result)) c.loop-parameter.place c.loop-parameter.place c.name_of.ensures refl c.in_ok-add.ensures.added
          ∙ ap (λ (xs : List Static). with_meanings c.loop-parameter.places (static_meanings c.loop-parameter.place (map static xs))) here
          ∙ c.loop-parameter.invariant.places;
    }
