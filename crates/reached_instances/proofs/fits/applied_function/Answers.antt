use Rattle.std.proofs.Common.{Option, ℕ, Vec, Global, subst}
use Rattle.closed_types.specs.SharedTrees.{trees}
use Rattle.closed_types.specs.UsesView.{AreWithinIfSome, all_trees}
use Rattle.closed_types.proofs.Using.{applied_place, applied_none}
use Rattle.reached_instances.proofs.fits.applied_function.Goals as goal

pub returns-in_ok-place-in-Some-clause-closed : goal.returns-in_ok-place-in-Some-clause-closed
returns-in_ok-place-in-Some-clause-closed c = λ w.
    let bs = c.args.shared.now.branches in
    let v = c.in-Some.places in
    let within = subst (λ (o : Option (Vec ℕ Global)). AreWithinIfSome bs o) c.in-Some.is (c.in_ok-places.ensures.within bs w) in
    applied_place bs c.share.new.self.branches c.args.function c.in_ok-place-in-Some.place c.args.fit v c.in_ok-places.field-0 (all_trees (trees bs) c.args.arguments.now) c.if-not-fit.false c.in-Some.is (c.in_ok-places.ensures.trees (trees bs)) c.in_ok-place-in-Some.ensures.within (c.in_ok-place-in-Some.ensures.place within)

pub returns-in-None-clause-closed : goal.returns-in-None-clause-closed
returns-in-None-clause-closed c = λ w.
    let bs = c.args.shared.now.branches in
    applied_none bs c.args.function c.args.fit c.in_ok-places.field-0 (all_trees (trees bs) c.args.arguments.now) c.if-not-fit.false c.in-None.is (c.in_ok-places.ensures.trees (trees bs))
