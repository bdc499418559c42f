use Rattle.std.proofs.Common.{◌≡◌, ◌∙◌, ◌+◌, ◌++◌, sym, ap, refl, List, ◌∷◌, map, drop}
use Rattle.fip_base.specs.CoreView.{data_constructor, writtens}
use Rattle.fip_base.specs.declared.core_form.DataConstructor.{DataConstructor}
use Rattle.fip_base.specs.declared.core_form.Written.{Written}
use Rattle.fip_trees.specs.Least.{after}
use Rattle.data_types.specs.Declarations.{all_looked_up, constructor_fields, constructor_name}
use Rattle.data_types.specs.Faults.{each_faults, field_faults, writtens_faults}
use Rattle.data_types.specs.Numbered.{row_numbered}
use Rattle.data_types.specs.View.{fields}
use Rattle.data_types.proofs.Numbers.{all_true_then}
use Rattle.data_types.proofs.Repeats.{walk_step, push_step, drop_item}
use Rattle.data_types.proofs.types.constructors_of.Goals as goal

pub loop-constructor-preserved : goal.loop-constructor-preserved
loop-constructor-preserved c =
    let rest = map data_constructor (drop (c.loop-constructor.constructor-index + 1) c.args.list.now) in
    let here = sym (drop_item c.args.list.now c.loop-constructor.constructor-index c.constructor-item.result c.loop-constructor-test.true c.constructor-item.is) in
    let old = c.loop-constructor.constructors.items in
    record {
      fields =
          push_step fields old _ _ (constructor_fields c.args.scope.now (data_constructor c.constructor-item.result)) (map (constructor_fields c.args.scope.now) rest) c.in_ok-push.ensures.items (c.in_ok-fields.ensures.found ∙ ap (λ (ws : List Written). all_looked_up c.args.scope.now (writtens ws)) c.deref.ensures.value)
          ∙ ap (λ (xs : List DataConstructor). map fields old ++ map (constructor_fields c.args.scope.now) (map data_constructor xs)) here
          ∙ c.loop-constructor.invariant.fields;
      names =
          push_step (λ k. k.name.now) old _ _ (constructor_name (data_constructor c.constructor-item.result)) (map constructor_name rest) c.in_ok-push.ensures.items c.as_slice.ensures.same
          ∙ ap (λ (xs : List DataConstructor). map (λ k. k.name.now) old ++ map constructor_name (map data_constructor xs)) here
          ∙ c.loop-constructor.invariant.names;
      numbered = λ n. all_true_then row_numbered old _ _ c.in_ok-push.ensures.items (c.loop-constructor.invariant.numbered n) (c.in_ok-fields.ensures.numbered n);
      faults =
          walk_step (λ k. each_faults c.args.scope.now (data_constructor k).fields) (λ ks. field_faults c.args.scope.now (map data_constructor ks)) (λ (x : DataConstructor) (xs : List DataConstructor). refl) c.args.list.now c.loop-constructor.constructor-index c.constructor-item.result c.loop-constructor.least c.look_up_all.new.least c.loop-constructor-test.true c.constructor-item.is (c.in_ok-fields.ensures.faults ∙ ap (λ (ws : List Written). after c.loop-constructor.least (writtens_faults c.args.scope.now (writtens ws))) c.deref.ensures.value)
          ∙ c.loop-constructor.invariant.faults;
    }
