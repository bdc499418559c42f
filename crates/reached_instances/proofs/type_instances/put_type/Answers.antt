use Rattle.std.proofs.Common.{◌∙◌, [], refl, sym, Some, ap}
use Rattle.closed_types.specs.SharedTrees.{tree_at, trees}
use Rattle.closed_types.proofs.Growing.{grows_same}
use Rattle.reached_instances.proofs.Putting.{put_as, put_none, put_place}
use Rattle.reached_instances.proofs.Typing.{type_of_head, type_of_function, type_of_int}
use Rattle.reached_instances.proofs.type_instances.put_type.Goals as goal

pub returns-in_ok-push-in-Some-Type : goal.returns-in_ok-push-in-Some-Type
returns-in_ok-push-in-Some-Type c = λ h w.
    let k = c.args.shared.now in
    let t = tree_at (trees k.branches) c.args.place in
    put_as k k c.args.places.now.items c.push.new.self.items _ _ (sym (type_of_head t c.in-Some-Type.field-0-0 (sym c.head_at.ensures ∙ c.in-Some-Type.is ∙ ap Some c.in-Some-Type.field-0-is)))
    (put_place k k c.args.places.now.items c.push.new.self.items c.args.place t (grows_same k.branches) refl w h refl c.in_ok-push-in-Some-Type.ensures.items)

pub returns-in-Some-Function : goal.returns-in-Some-Function
returns-in-Some-Function c = λ h w.
    let k = c.args.shared.now in
    put_as k k c.args.places.now.items c.args.places.now.items [] _ (sym (type_of_function (tree_at (trees k.branches) c.args.place) c.in-Some-Function.field-0-0 (sym c.head_at.ensures ∙ c.in-Some-Function.is ∙ ap Some c.in-Some-Function.field-0-is)))
    (put_none k c.args.places.now.items w)

pub returns-in-None : goal.returns-in-None
returns-in-None c = λ h w.
    let k = c.args.shared.now in
    put_as k k c.args.places.now.items c.args.places.now.items [] _ (sym (type_of_int (tree_at (trees k.branches) c.args.place) (sym c.head_at.ensures ∙ c.in-None.is)))
    (put_none k c.args.places.now.items w)
