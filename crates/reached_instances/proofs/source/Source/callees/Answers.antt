use Rattle.std.proofs.Common.{◌≡◌, ◌≤◌, ◌<◌, ◌∙◌, List, length, map, get_or, ap, sym, subst}
use Rattle.fip_trees.specs.Least.{after}
use Rattle.closed_types.specs.declared.mentions.CallSite.{CallSite}
use Rattle.reached_instances.specs.declared.source.FunctionSource.{FunctionSource}
use Rattle.closed_types.specs.Instances.{all_reached, all_use_faults, calls_in, faults_in}
use Rattle.closed_types.specs.MentionsView.{use_of}
use Rattle.closed_types.specs.SharedTrees.{all_at, trees}
use Rattle.reached_instances.specs.SourceView.{function_source, instance, source}
use Rattle.closed_types.proofs.Declarations.{at_past, at_there}
use Rattle.reached_instances.proofs.Mentioned.{sites_there}
use Rattle.reached_instances.proofs.source.Source.callees.Goals as goal

pub returns-in_ok-places-in-Some-clause-trees : goal.returns-in_ok-places-in-Some-clause-trees
returns-in_ok-places-in-Some-clause-trees c = λ r w.
    let s = c.args.self.now in
    let f = c.in-Some.found.now in
    let i = c.args.here.now.function in
    let h = instance (trees c.args.shared.now.branches) c.args.here.now in
    let l = subst (λ (xs : List FunctionSource). i < length xs) c.deref.ensures.value c.in-Some.ensures.lookup.3.0 in
    let e = subst (λ (xs : List FunctionSource). f ≡ get_or xs i f) c.deref.ensures.value c.in-Some.ensures.lookup.1 in
    c.in_ok-places-in-Some.ensures.trees r w
    ∙ ap (λ (xs : List CallSite). all_reached (source s) h (map use_of xs)) c.deref-in-Some.ensures.value
    ∙ ap (all_reached (source s) h) (sites_there s i f r.looked_up l e)
    ∙ sym (ap (calls_in (source s) h) (at_there function_source s.functions.items i f l e))

pub returns-in_ok-places-in-Some-clause-faults : goal.returns-in_ok-places-in-Some-clause-faults
returns-in_ok-places-in-Some-clause-faults c = λ r w.
    let s = c.args.self.now in
    let f = c.in-Some.found.now in
    let i = c.args.here.now.function in
    let n = c.args.here.now.number in
    let h = instance (trees c.args.shared.now.branches) c.args.here.now in
    let l = subst (λ (xs : List FunctionSource). i < length xs) c.deref.ensures.value c.in-Some.ensures.lookup.3.0 in
    let e = subst (λ (xs : List FunctionSource). f ≡ get_or xs i f) c.deref.ensures.value c.in-Some.ensures.lookup.1 in
    c.in_ok-places-in-Some.ensures.faults r w
    ∙ ap (after c.args.least.now) (ap (λ (xs : List CallSite). all_use_faults (source s) n h (map use_of xs)) c.deref-in-Some.ensures.value
    ∙ ap (all_use_faults (source s) n h) (sites_there s i f r.looked_up l e)
    ∙ sym (ap (faults_in (source s) n h) (at_there function_source s.functions.items i f l e)))

pub returns-in-None-clause-trees : goal.returns-in-None-clause-trees
returns-in-None-clause-trees c = λ r w.
    let s = c.args.self.now in
    let i = c.args.here.now.function in
    let h = instance (trees c.args.shared.now.branches) c.args.here.now in
    let l = subst (λ (xs : List FunctionSource). length xs ≤ i) c.deref.ensures.value c.in-None.ensures.lookup.3 in
    ap (all_at (trees c.args.shared.now.branches)) c.new.ensures.items ∙ sym (ap (calls_in (source s) h) (at_past function_source s.functions.items i l))

pub returns-in-None-clause-faults : goal.returns-in-None-clause-faults
returns-in-None-clause-faults c = λ r w.
    let s = c.args.self.now in
    let i = c.args.here.now.function in
    let h = instance (trees c.args.shared.now.branches) c.args.here.now in
    let l = subst (λ (xs : List FunctionSource). length xs ≤ i) c.deref.ensures.value c.in-None.ensures.lookup.3 in
    sym (ap (λ x. after c.args.least.now (faults_in (source s) c.args.here.now.number h x)) (at_past function_source s.functions.items i l))
