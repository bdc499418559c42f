use Rattle.std.proofs.Common.{get_or, ◌∙◌, ℕ, List, [], ◌∷◌, sym, ap, subst}
use Rattle.closed_types.specs.declared.closed.Head.TheVariants as H
use Rattle.closed_types.specs.Closed.{Applied, NoClosed}
use Rattle.closed_types.specs.SharedTrees.{AreWithin, trees, trees_at}
use Rattle.reached_instances.proofs.Putting.{item_is, all_of_single, put_as, put_ends, put_place, put_starts, put_step}
use Rattle.reached_instances.proofs.source.Source.put_named.Goals as goal

pub loop-number-init : goal.loop-number-init
loop-number-init c = λ w. put_starts (λ (n : ℕ). Applied (H.«Type» n) NoClosed ∷ []) c.args.numbers.now c.args.shared.now c.args.places.now.items w

pub loop-number-preserved : goal.loop-number-preserved
loop-number-preserved c = λ w.
    let old = c.args.shared.now in
    let mid = c.loop-number.shared in
    let new = c.share.new.self in
    let x = (get_or c.args.numbers.now c.loop-number.number-index 0) in
    let p = c.loop-number.invariant w in
    let none = c.new.ensures.items in
    put_step (λ (n : ℕ). Applied (H.«Type» n) NoClosed ∷ []) c.args.numbers.now c.loop-number.number-index x old mid new c.args.places.now.items c.loop-number.places.items c.push.new.self.items c.loop-number-test.true (item_is c.args.numbers.now c.loop-number.number-index 0 c.loop-number-test.true) p
    (put_place mid new c.loop-number.places.items c.push.new.self.items c.in_ok-place.place (Applied (H.«Type» x) NoClosed) c.in_ok-place.ensures.grows c.in_ok-place.ensures.fits p.within c.in_ok-place.ensures.within
    (c.in_ok-place.ensures.place (subst (AreWithin mid.branches) (sym none) tt) ∙ ap (λ (is : List ℕ). Applied (H.«Type» x) (trees_at (trees mid.branches) is)) none) c.in_ok-push.ensures.items)

pub returns : goal.returns
returns c = λ w.
    put_as c.args.shared.now c.loop-number.shared c.args.places.now.items c.loop-number.places.items _ _ (all_of_single (λ (n : ℕ). Applied (H.«Type» n) NoClosed) c.args.numbers.now)
    (put_ends (λ (n : ℕ). Applied (H.«Type» n) NoClosed ∷ []) c.args.numbers.now c.loop-number.number-index c.args.shared.now c.loop-number.shared c.args.places.now.items c.loop-number.places.items c.loop-number-test.false (c.loop-number.invariant w))
