use Rattle.std.proofs.Common.{slice_get, ◌∙◌, Option, ap, sym, subst}
use Rattle.fip_trees.specs.Least.{after}
use Rattle.reached_instances.specs.declared.source.Here.{Here}
use Rattle.closed_types.specs.Closed.{Closed}
use Rattle.closed_types.specs.Instances.{calls_from, faults_in, faults_of}
use Rattle.closed_types.specs.SharedTrees.{AreWithin, all_at, tree_at, trees}
use Rattle.reached_instances.specs.SourceView.{IsFunctionAt, IsHere, instance, source}
use Rattle.closed_types.proofs.Growing.{grows_same}
use Rattle.reached_instances.proofs.Reaching.{no_calls, no_faults}
use Rattle.reached_instances.proofs.instances.InstancesReaching.visit.Goals as goal

pub returns-in_ok-places-in-Some-clause-visited : goal.returns-in_ok-places-in-Some-clause-visited
returns-in_ok-places-in-Some-clause-visited c = λ r.
    let s = source c.args.self.now.source.now in
    let bs = c.args.shared.now.branches in
    let h : IsFunctionAt bs c.args.place c.args.number c.in-Some.here = subst (λ (o : Option Here). IsHere bs c.args.place c.args.number o) c.in-Some.is c.in_ok-here.ensures in
    record {
      grows = c.in_ok-places-in-Some.ensures.grows;
      right = c.in_ok-places-in-Some.ensures.right r h.within;
      within = c.in_ok-places-in-Some.ensures.within r h.within;
      trees = c.in_ok-places-in-Some.ensures.trees r h.within ∙ ap (calls_from s) (sym h.tree);
    }

pub returns-in_ok-places-in-Some-clause-least : goal.returns-in_ok-places-in-Some-clause-least
returns-in_ok-places-in-Some-clause-least c = λ r.
    let s = source c.args.self.now.source.now in
    let bs = c.args.shared.now.branches in
    let x = c.in-Some.here in
    let h : IsFunctionAt bs c.args.place c.args.number x = subst (λ (o : Option Here). IsHere bs c.args.place c.args.number o) c.in-Some.is c.in_ok-here.ensures in
    c.in_ok-places-in-Some.ensures.faults r h.within
    ∙ ap (λ n. after c.args.least.now (faults_in s n (instance (trees bs) x) (slice_get s.functions x.function))) h.numbered
    ∙ ap (λ (t : Closed). after c.args.least.now (faults_of s c.args.number t)) (sym h.tree)

pub returns-in-None-clause-visited : goal.returns-in-None-clause-visited
returns-in-None-clause-visited c = λ r.
    let s = source c.args.self.now.source.now in
    let bs = c.args.shared.now.branches in
    let h = subst (λ (o : Option Here). IsHere bs c.args.place c.args.number o) c.in-None.is c.in_ok-here.ensures in
    record {
      grows = grows_same bs;
      right = r;
      within = subst (AreWithin bs) (sym c.new.ensures.items) tt;
      trees = ap (all_at (trees bs)) c.new.ensures.items ∙ sym (no_calls s (tree_at (trees bs) c.args.place) h);
    }

pub returns-in-None-clause-least : goal.returns-in-None-clause-least
returns-in-None-clause-least c = λ r.
    let s = source c.args.self.now.source.now in
    let bs = c.args.shared.now.branches in
    let h = subst (λ (o : Option Here). IsHere bs c.args.place c.args.number o) c.in-None.is c.in_ok-here.ensures in
    sym (ap (after c.args.least.now) (no_faults s c.args.number (tree_at (trees bs) c.args.place) h))
