use Rattle.std.proofs.Common.{◌∙◌, ℕ, Option, List, Vec, Global, ap, subst}
use Rattle.fip_base.specs.CoreView.{writtens}
use Rattle.fip_base.specs.fip_language.Core.{Static}
use Rattle.fip_trees.specs.Least.{after}
use Rattle.reached_instances.specs.declared.source.Here.{Here}
use Rattle.closed_types.specs.Closed.{Closed}
use Rattle.closed_types.specs.SharedTrees.{trees, trees_at}
use Rattle.closed_types.specs.Source.{statics_at}
use Rattle.reached_instances.specs.SourceView.{IsHere, source, instance}
use Rattle.closed_types.specs.Uses.{all_fit, misfits, types_given}
use Rattle.closed_types.specs.UsesView.{AreWithinIfSome, all_trees}
use Rattle.reached_instances.proofs.Checking.{here_is, fit_known, misfits_known, fit_unknown, misfits_unknown}
use Rattle.reached_instances.proofs.Fitting.{right_kept}
use Rattle.closed_types.proofs.SharedAt.{int_first}
use Rattle.closed_types.proofs.Using.{arguments_kept, arguments_within}
use Rattle.reached_instances.proofs.source.Source.check_passed.Goals as goal

pub returns-in_ok-fit-in-Some-2-clause-right : goal.returns-in_ok-fit-in-Some-2-clause-right
returns-in_ok-fit-in-Some-2-clause-right c = λ r w.
    let s = c.args.self.now in
    let k = c.args.shared.now in
    let l = c.share.new.self in
    let v = c.in-Some.given in
    let within = subst (λ (o : Option (Vec ℕ Global)). AreWithinIfSome k.branches o) c.in-Some.is (c.in_ok-given.ensures.within k.branches w) in
    let asked = here_is k.branches l.branches c.in_ok-place-in-Some.place c.args.function c.args.here.now.number v.items c.in_ok-there-in-Some.field-0 c.in-Some-2.there c.in-Some-2.is c.in_ok-there-in-Some.ensures c.in_ok-place-in-Some.ensures.within (c.in_ok-place-in-Some.ensures.place within) in
    c.in_ok-fit-in-Some-2.ensures.right (right_kept s k l c.in_ok-place-in-Some.ensures.grows c.in_ok-place-in-Some.ensures.fits r) asked.0 (arguments_within k.branches l.branches c.args.arguments.now c.in_ok-place-in-Some.ensures.grows w)

pub returns-in_ok-fit-in-Some-2-clause-fit : goal.returns-in_ok-fit-in-Some-2-clause-fit
returns-in_ok-fit-in-Some-2-clause-fit c = λ r w.
    let s = c.args.self.now in
    let k = c.args.shared.now in
    let l = c.share.new.self in
    let v = c.in-Some.given in
    let g = c.in_ok-place-in-Some.ensures.grows in
    let within = subst (λ (o : Option (Vec ℕ Global)). AreWithinIfSome k.branches o) c.in-Some.is (c.in_ok-given.ensures.within k.branches w) in
    let asked = here_is k.branches l.branches c.in_ok-place-in-Some.place c.args.function c.args.here.now.number v.items c.in_ok-there-in-Some.field-0 c.in-Some-2.there c.in-Some-2.is c.in_ok-there-in-Some.ensures c.in_ok-place-in-Some.ensures.within (c.in_ok-place-in-Some.ensures.place within) in
    let given = ap (λ (xs : List Static). types_given xs (all_trees (trees k.branches) c.args.arguments.now)) (c.statics.ensures) in
    fit_known (source s) c.args.function (trees k.branches) v c.in_ok-given.field-0 (all_trees (trees k.branches) c.args.arguments.now) (instance (trees l.branches) c.in-Some-2.there) c.in_ok-fit-in-Some-2.fit asked.1 c.in-Some.is
    (c.in_ok-given.ensures.trees (trees k.branches) (int_first k.branches) ∙ given)
    (c.in_ok-fit-in-Some-2.ensures.fit (right_kept s k l g c.in_ok-place-in-Some.ensures.fits r) asked.0 (arguments_within k.branches l.branches c.args.arguments.now g w)
    ∙ ap (all_fit (source s) (instance (trees l.branches) c.in-Some-2.there) (statics_at (source s) c.in-Some-2.there.function)) (arguments_kept k.branches l.branches c.args.arguments.now g w))

pub returns-in_ok-fit-in-Some-2-clause-faults : goal.returns-in_ok-fit-in-Some-2-clause-faults
returns-in_ok-fit-in-Some-2-clause-faults c = λ r w.
    let s = c.args.self.now in
    let k = c.args.shared.now in
    let l = c.share.new.self in
    let v = c.in-Some.given in
    let g = c.in_ok-place-in-Some.ensures.grows in
    let i = c.args.here.now.number in
    let ws = writtens c.args.statics.now in
    let within = subst (λ (o : Option (Vec ℕ Global)). AreWithinIfSome k.branches o) c.in-Some.is (c.in_ok-given.ensures.within k.branches w) in
    let asked = here_is k.branches l.branches c.in_ok-place-in-Some.place c.args.function i v.items c.in_ok-there-in-Some.field-0 c.in-Some-2.there c.in-Some-2.is c.in_ok-there-in-Some.ensures c.in_ok-place-in-Some.ensures.within (c.in_ok-place-in-Some.ensures.place within) in
    let given = ap (λ (xs : List Static). types_given xs (all_trees (trees k.branches) c.args.arguments.now)) (c.statics.ensures) in
    (c.in_ok-fit-in-Some-2.ensures.faults (right_kept s k l g c.in_ok-place-in-Some.ensures.fits r) asked.0 (arguments_within k.branches l.branches c.args.arguments.now g w)
    ∙ ap (λ (os : List (Option Closed)). after c.args.least.now (misfits (source s) i (instance (trees l.branches) c.in-Some-2.there) (statics_at (source s) c.in-Some-2.there.function) ws os)) (arguments_kept k.branches l.branches c.args.arguments.now g w))
    ∙ ap (after c.args.least.now) (misfits_known (source s) i c.args.function ws (trees k.branches) v c.in_ok-given.field-0 (all_trees (trees k.branches) c.args.arguments.now) (instance (trees l.branches) c.in-Some-2.there) asked.1 c.in-Some.is
    (c.in_ok-given.ensures.trees (trees k.branches) (int_first k.branches) ∙ given))

-- a function stands there
pub returns-in-None-2-clause-right : goal.returns-in-None-2-clause-right
returns-in-None-2-clause-right c = λ r w.
    right_kept c.args.self.now c.args.shared.now c.share.new.self c.in_ok-place-in-Some.ensures.grows c.in_ok-place-in-Some.ensures.fits r

pub returns-in-None-2-clause-fit : goal.returns-in-None-2-clause-fit
returns-in-None-2-clause-fit c = λ r w.
    let k = c.args.shared.now in
    let l = c.share.new.self in
    let within = subst (λ (o : Option (Vec ℕ Global)). AreWithinIfSome k.branches o) c.in-Some.is (c.in_ok-given.ensures.within k.branches w) in
    absurd ((subst (λ (o : Option Here). IsHere l.branches c.in_ok-place-in-Some.place c.args.here.now.number o) c.in-None-2.is c.in_ok-there-in-Some.ensures) c.args.function (trees_at (trees k.branches) c.in-Some.given.items) (c.in_ok-place-in-Some.ensures.place within))

pub returns-in-None-2-clause-faults : goal.returns-in-None-2-clause-faults
returns-in-None-2-clause-faults c = λ r w.
    let k = c.args.shared.now in
    let l = c.share.new.self in
    let within = subst (λ (o : Option (Vec ℕ Global)). AreWithinIfSome k.branches o) c.in-Some.is (c.in_ok-given.ensures.within k.branches w) in
    absurd ((subst (λ (o : Option Here). IsHere l.branches c.in_ok-place-in-Some.place c.args.here.now.number o) c.in-None-2.is c.in_ok-there-in-Some.ensures) c.args.function (trees_at (trees k.branches) c.in-Some.given.items) (c.in_ok-place-in-Some.ensures.place within))

-- a type argument breaks a rule
pub returns-in-None-clause-fit : goal.returns-in-None-clause-fit
returns-in-None-clause-fit c = λ r w.
    let k = c.args.shared.now in
    let os = all_trees (trees k.branches) c.args.arguments.now in
    fit_unknown (source c.args.self.now) c.args.function (trees k.branches) c.in_ok-given.field-0 os c.in-None.is
    (c.in_ok-given.ensures.trees (trees k.branches) (int_first k.branches) ∙ ap (λ (xs : List Static). types_given xs os) c.statics.ensures)

pub returns-in-None-clause-faults : goal.returns-in-None-clause-faults
returns-in-None-clause-faults c = λ r w.
    let k = c.args.shared.now in
    let os = all_trees (trees k.branches) c.args.arguments.now in
    ap (after c.args.least.now) (misfits_unknown (source c.args.self.now) c.args.here.now.number c.args.function (writtens c.args.statics.now) (trees k.branches) c.in_ok-given.field-0 os c.in-None.is
    (c.in_ok-given.ensures.trees (trees k.branches) (int_first k.branches) ∙ ap (λ (xs : List Static). types_given xs os) c.statics.ensures))
