use Rattle.std.proofs.Common.{◌∙◌, List, map, ap}
use Rattle.fip_trees.specs.declared.decls.FieldType.{FieldType}
use Rattle.static_params.specs.FlatProgram.{count_tys}
use Rattle.reached_instances.specs.closed_types.Source.{Constructor}
use Rattle.reached_instances.specs.closed_types.DeclaredView.{constructor, ty, tys_of}
use Rattle.static_params.proofs.Made.{items_goes}
use Rattle.static_params.proofs.specialised.counts_of.Goals as goal

pub loop-constructor-preserved : goal.loop-constructor-preserved
loop-constructor-preserved c =
    let f = λ (k : Constructor). count_tys k.fields in
    items_goes f constructor c.loop-constructor.counts.items c.push.new.self.items c.args.constructors.now c.loop-constructor.constructor-index c.constructor-item.result c.count_of.result (map f (map constructor c.args.constructors.now)) c.loop-constructor-test.true c.constructor-item.is c.in_ok-push.ensures.items
    (c.count_of.ensures ∙ ap (λ (l : List FieldType). count_tys (tys_of (map ty l))) c.deref.ensures.value) c.loop-constructor.invariant
