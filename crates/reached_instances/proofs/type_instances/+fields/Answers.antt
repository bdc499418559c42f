use Rattle.std.proofs.Common.{◌∙◌, ℕ, ◌+◌, ◌<◌, List, [], ◌∷◌, map, length, sym, ap, subst}
use Rattle.fip_trees.specs.declared.decls.FieldType.{FieldType}
use Rattle.closed_types.specs.declared.closed.Head.TheVariants as H
use Rattle.closed_types.specs.Closed.{Closeds, Applied, row}
use Rattle.closed_types.specs.SharedTrees.{tree_at, trees, trees_at}
use Rattle.closed_types.specs.PutView.{Put}
use Rattle.closed_types.specs.DeclaredView.{ty}
use Rattle.closed_types.specs.TypeInstances.{field_type}
use Rattle.reached_instances.proofs.Fielding.{ty_int, ty_parameter, ty_applied, pick_at, pick_within, rowed, fields_row}
use Rattle.closed_types.proofs.Growing.{grows_same, grows_more, trees_kept, within_more}
use Rattle.reached_instances.proofs.Putting.{all_of_single, map_map, put_as, put_ends, put_place, put_starts, put_step}
use Rattle.closed_types.proofs.SharedAt.{int_first}
use Rattle.reached_instances.proofs.type_instances.+fields.Goals as goal

pub field_place-returns-in-Int-clause-grows : goal.field_place-returns-in-Int-clause-grows
field_place-returns-in-Int-clause-grows t c = λ w. grows_same c.args.shared.now.branches

pub field_place-returns-in-Int-clause-tree : goal.field_place-returns-in-Int-clause-tree
field_place-returns-in-Int-clause-tree t c = λ w.
    let cs = trees_at (trees c.args.shared.now.branches) c.args.given.now in
    int_first c.args.shared.now.branches ∙ sym (ap (field_type cs) (ap ty c.in-Int.is ∙ ty_int))

pub field_place-returns-in-Parameter-clause-grows : goal.field_place-returns-in-Parameter-clause-grows
field_place-returns-in-Parameter-clause-grows t c = λ w. grows_same c.args.shared.now.branches

pub field_place-returns-in-Parameter-clause-within : goal.field_place-returns-in-Parameter-clause-within
field_place-returns-in-Parameter-clause-within t c = λ w.
    subst (λ (i : ℕ). i < length c.args.shared.now.branches + 1) (sym c.given_at.ensures) (pick_within c.args.shared.now.branches c.args.given.now c.in-Parameter.k w)

pub field_place-returns-in-Parameter-clause-tree : goal.field_place-returns-in-Parameter-clause-tree
field_place-returns-in-Parameter-clause-tree t c = λ w.
    let ts = trees c.args.shared.now.branches in
    let cs = trees_at ts c.args.given.now in
    ap (tree_at ts) c.given_at.ensures
    ∙ sym (ap (field_type cs) (ap ty c.in-Parameter.is ∙ ty_parameter c.in-Parameter.k) ∙ pick_at ts c.args.given.now c.in-Parameter.k (int_first c.args.shared.now.branches))

pub field_place-returns-in_ok-place-in-Applied-clause-grows : goal.field_place-returns-in_ok-place-in-Applied-clause-grows
field_place-returns-in_ok-place-in-Applied-clause-grows t c = λ w. grows_more c.args.shared.now.branches c.field_places.new.shared.branches c.share.new.self.branches (c.in_ok-places-in-Applied.ensures w).grows c.in_ok-place-in-Applied.ensures.grows

pub field_place-returns-in_ok-place-in-Applied-clause-fits : goal.field_place-returns-in_ok-place-in-Applied-clause-fits
field_place-returns-in_ok-place-in-Applied-clause-fits t c = λ w. c.in_ok-place-in-Applied.ensures.fits ∙ (c.in_ok-places-in-Applied.ensures w).fits

pub field_place-returns-in_ok-place-in-Applied-clause-tree : goal.field_place-returns-in_ok-place-in-Applied-clause-tree
field_place-returns-in_ok-place-in-Applied-clause-tree t c = λ w.
    let cs = trees_at (trees c.args.shared.now.branches) c.args.given.now in
    let mid = trees c.field_places.new.shared.branches in
    let p = c.in_ok-places-in-Applied.ensures w in
    let n = c.in-Applied.number in
    c.in_ok-place-in-Applied.ensures.place p.within
    ∙ ap (Applied (H.«Type» n)) (rowed mid c.in_ok-places-in-Applied.places.items ∙ ap row (p.trees ∙ ap (λ (ts : List FieldType). map (field_type cs) (map ty ts)) c.deref.ensures.value) ∙ fields_row cs (map ty c.in-Applied.arguments.items))
    ∙ sym (ap (field_type cs) (ap ty c.in-Applied.is ∙ ty_applied n c.in-Applied.arguments))

pub field_places-loop-ty-init : goal.field_places-loop-ty-init
field_places-loop-ty-init t c = λ w.
    let f = λ (x : FieldType). field_type (trees_at (trees c.args.shared.now.branches) c.args.given.now) (ty x) ∷ [] in
    subst (λ (is : List ℕ). Put c.args.shared.now c.args.shared.now [] is []) (sym c.new-places.ensures.items) (put_starts f c.args.types.now c.args.shared.now [] tt)

pub field_places-loop-ty-preserved : goal.field_places-loop-ty-preserved
field_places-loop-ty-preserved t c = λ w.
    let old = c.args.shared.now in
    let mid = c.loop-ty.shared in
    let new = c.field_place.new.shared in
    let f = λ (x : FieldType). field_type (trees_at (trees old.branches) c.args.given.now) (ty x) ∷ [] in
    let x = c.ty-item.result in
    let p = c.loop-ty.invariant w in
    let v = within_more old.branches mid.branches c.args.given.now p.grows w in
    put_step f c.args.types.now c.loop-ty.ty-index x old mid new [] c.loop-ty.places.items c.push.new.self.items c.loop-ty-test.true c.ty-item.is p
    (put_place mid new c.loop-ty.places.items c.push.new.self.items c.in_ok-place.place (field_type (trees_at (trees old.branches) c.args.given.now) (ty x)) (c.in_ok-place.ensures.grows v) (c.in_ok-place.ensures.fits v) p.within (c.in_ok-place.ensures.within v)
    (c.in_ok-place.ensures.tree v ∙ ap (λ (cs : Closeds). field_type cs (ty x)) (trees_kept old.branches mid.branches c.args.given.now p.grows w)) c.in_ok-push.ensures.items)

pub field_places-returns : goal.field_places-returns
field_places-returns t c = λ w.
    let old = c.args.shared.now in
    let cs = trees_at (trees old.branches) c.args.given.now in
    let f = λ (x : FieldType). field_type cs (ty x) ∷ [] in
    put_as old c.loop-ty.shared [] c.loop-ty.places.items _ _ (all_of_single (λ (x : FieldType). field_type cs (ty x)) c.args.types.now ∙ sym (map_map (field_type cs) ty c.args.types.now))
    (put_ends f c.args.types.now c.loop-ty.ty-index old c.loop-ty.shared [] c.loop-ty.places.items c.loop-ty-test.false (c.loop-ty.invariant w))
