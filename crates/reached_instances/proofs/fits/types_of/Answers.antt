use Rattle.std.proofs.Common.{◌≡◌, ◌≤◌, ◌+◌, ◌∙◌, ℕ, ◌∷◌, length, map, drop, sym, ap, subst}
use Rattle.fip_base.specs.CoreView.{static}
use Rattle.reached_instances.proofs.Declaring.{map_length}
use Rattle.reached_instances.proofs.Gathering.{typed_fails, typed_goes, typed_ends, typed_stops}
use Rattle.closed_types.proofs.Lists.{drop_item, mapped_item}
use Rattle.reached_instances.proofs.fits.types_of.Goals as goal

pub returns-in-None-type_of-clause-trees : goal.returns-in-None-type_of-clause-trees
returns-in-None-type_of-clause-trees c = λ ts z.
    let ps = c.args.parameters.now in
    let os = c.args.arguments.now in
    let k = c.loop-parameter.parameter-index in
    let a = c.in-Some.argument.now in
    let d = subst (λ (n : ℕ). drop n os ≡ a ∷ drop (n + 1) os) c.loop-parameter.invariant.index (drop_item os c.loop-parameter.number a c.in-Some.ensures.lookup.3.0 c.in-Some.ensures.lookup.1) in
    typed_fails (map static ps) os c.loop-parameter.places.items k (static c.parameter-item.result) a ts z (mapped_item static ps k c.parameter-item.result c.loop-parameter-test.true c.parameter-item.is) d (sym c.type_of.ensures ∙ c.in-None-type_of.is) c.loop-parameter.invariant.typed

pub returns-in-None-clause-within : goal.returns-in-None-clause-within
returns-in-None-clause-within c = λ bs w. (c.loop-parameter.invariant.typed.within bs w).0

pub returns-in-None-clause-trees : goal.returns-in-None-clause-trees
returns-in-None-clause-trees c = λ ts z.
    typed_stops (map static c.args.parameters.now) c.args.arguments.now c.loop-parameter.places c.loop-parameter.parameter-index ts z
    (subst (λ (n : ℕ). length c.args.arguments.now ≤ n) c.loop-parameter.invariant.index c.in-None.ensures.lookup.3) c.loop-parameter.invariant.typed

pub loop-parameter-preserved : goal.loop-parameter-preserved
loop-parameter-preserved c =
    let ps = c.args.parameters.now in
    let os = c.args.arguments.now in
    let k = c.loop-parameter.parameter-index in
    let a = c.in-Some.argument.now in
    let d = subst (λ (n : ℕ). drop n os ≡ a ∷ drop (n + 1) os) c.loop-parameter.invariant.index (drop_item os c.loop-parameter.number a c.in-Some.ensures.lookup.3.0 c.in-Some.ensures.lookup.1) in
    record {
      index = ap (λ n. n + 1) c.loop-parameter.invariant.index;
      typed = typed_goes (map static ps) os c.loop-parameter.places.items c.push.new.self.items k c.in-Some-type_of.place (static c.parameter-item.result) a (mapped_item static ps k c.parameter-item.result c.loop-parameter-test.true c.parameter-item.is) d (sym c.type_of.ensures ∙ c.in-Some-type_of.is) c.in_ok-push-in-Some-type_of.ensures.items c.loop-parameter.invariant.typed;
    }

pub returns-clause-within : goal.returns-clause-within
returns-clause-within c = λ bs w. (c.loop-parameter.invariant.typed.within bs w).0

pub returns-clause-trees : goal.returns-clause-trees
returns-clause-trees c = λ ts z.
    typed_ends (map static c.args.parameters.now) c.args.arguments.now c.loop-parameter.places c.loop-parameter.parameter-index ts z
    (subst (λ (n : ℕ). n ≤ c.loop-parameter.parameter-index) (sym (map_length static c.args.parameters.now)) c.loop-parameter-test.false) c.loop-parameter.invariant.typed
