use Rattle.std.proofs.Common.{◌∙◌, ℕ, List, [], ap, sym, subst}
use Rattle.closed_types.specs.declared.closed.Head.TheVariants as H
use Rattle.closed_types.specs.Closed.{Applied, NoClosed}
use Rattle.closed_types.specs.SharedTrees.{AreWithin, trees, trees_at}
use Rattle.reached_instances.proofs.Putting.{put_as, put_none, put_place}
use Rattle.reached_instances.proofs.instances.put_root.Goals as goal

pub returns-then-has_statics : goal.returns-then-has_statics
returns-then-has_statics c = λ w.
    put_as c.args.shared.now c.args.shared.now c.args.places.now.items c.args.places.now.items [] _ (c.has_statics.ensures.some c.if-has_statics.true c.args.number) (put_none c.args.shared.now c.args.places.now.items w)

pub returns : goal.returns
returns c = λ w.
    let old = c.args.shared.now in
    let new = c.share.new.self in
    let none = c.new.ensures.items in
    put_as old new c.args.places.now.items c.push.new.self.items _ _ (c.has_statics.ensures.none c.if-has_statics.false c.args.number)
    (put_place old new c.args.places.now.items c.push.new.self.items c.in_ok-place.place (Applied (H.Function c.args.number) NoClosed) c.in_ok-place.ensures.grows c.in_ok-place.ensures.fits w c.in_ok-place.ensures.within
    (c.in_ok-place.ensures.place (subst (AreWithin old.branches) (sym none) tt) ∙ ap (λ (is : List ℕ). Applied (H.Function c.args.number) (trees_at (trees old.branches) is)) none) c.in_ok-push.ensures.items)
