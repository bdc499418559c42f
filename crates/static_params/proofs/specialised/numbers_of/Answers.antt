use Rattle.std.proofs.Common.{◌≡◌, ◌≤◌, ◌∙◌, ℕ, List, [], Option, IfSome, length, ap, subst}
use Rattle.fip_language.specs.declared.limits.TheConstants.{MOST_INSTANCES}
use Rattle.fip_trees.specs.Least.{after}
use Rattle.fip_trees.specs.declared.least.Violation.{Violation}
use Rattle.static_params.specs.FlatView.{IsTypes}
use Rattle.reached_instances.specs.closed_types.Instances.{AreInstances, all_faults}
use Rattle.reached_instances.specs.KnownFits.{AreRoots}
use Rattle.reached_instances.specs.closed_types.SharedTrees.{AreWithin, all_at, trees}
use Rattle.reached_instances.specs.SourceView.{source}
use Rattle.static_params.proofs.Specialising.{few_at, many_functions, many_types, numbered}
use Rattle.static_params.proofs.specialised.numbers_of.Goals as goal

pub returns-in-Some-2-clause-found : goal.returns-in-Some-2-clause-found
returns-in-Some-2-clause-found c = λ r e.
    let s = c.args.source.now in
    let k = c.number.new.shared in
    let l = c.types_of.new.shared in
    let is = c.in-Some.instances in
    let some = c.in-Some.is in
    let n = c.in_ok-instances.ensures in
    let within = subst (λ (o : Option (List ℕ)). IfSome o (λ (v : List ℕ). AreWithin k.branches v)) some (n.within r) in
    let roots : AreRoots s is [] k = record { right = n.right r; instances = within; passed = tt } in
    numbered s is c.in-Some-2.types k l c.number.new.least within
    (subst (λ (o : Option (List ℕ)). IfSome o (λ (v : List ℕ). length v ≤ MOST_INSTANCES)) some n.few)
    (subst (λ (o : Option (List ℕ)). IfSome o (λ (v : List ℕ). AreInstances (source s) (all_at (trees k.branches) v))) some (n.numbered r))
    (c.in_ok-types-in-Some.ensures.grows roots) (c.in_ok-types-in-Some.ensures.right roots)
    (subst (λ (o : Option (List ℕ)). IfSome o (λ (v : List ℕ). IsTypes s (all_at (trees k.branches) is) l v)) c.in-Some-2.is (c.in_ok-types-in-Some.ensures.types roots))
    (subst (λ (o : Option (List ℕ)). IfSome o (λ (v : List ℕ). c.number.new.least ≡ after c.args.least.now (all_faults (source s) (all_at (trees k.branches) v)))) some (n.least r)
    ∙ ap (λ (x : Option Violation). after x (all_faults (source s) (all_at (trees k.branches) is))) e)

pub returns-in_ok-too_many-in-None-2-clause-broken : goal.returns-in_ok-too_many-in-None-2-clause-broken
returns-in_ok-too_many-in-None-2-clause-broken c = λ r e.
    let s = c.args.source.now in
    let k = c.number.new.shared in
    let is = c.in-Some.instances in
    let some = c.in-Some.is in
    let n = c.in_ok-instances.ensures in
    let within = subst (λ (o : Option (List ℕ)). IfSome o (λ (v : List ℕ). AreWithin k.branches v)) some (n.within r) in
    let roots : AreRoots s is [] k = record { right = n.right r; instances = within; passed = tt } in
    many_types (source s) (all_at (trees k.branches) is) c.too_many.new.least
    (subst (λ (o : Option (List ℕ)). IfSome o (λ (v : List ℕ). AreInstances (source s) (all_at (trees k.branches) v))) some (n.numbered r))
    (few_at k is (subst (λ (o : Option (List ℕ)). IfSome o (λ (v : List ℕ). length v ≤ MOST_INSTANCES)) some n.few))
    (c.in_ok-types-in-Some.ensures.many roots c.in-None-2.is) c.in_ok-too_many-in-None-2.ensures

pub returns-in_ok-too_many-in-None-clause-broken : goal.returns-in_ok-too_many-in-None-clause-broken
returns-in_ok-too_many-in-None-clause-broken c = λ r e.
    let s = c.args.source.now in
    many_functions (source s) c.too_many-in-None.new.least (c.in_ok-instances.ensures.many r c.in-None.is) c.in_ok-too_many-in-None.ensures
