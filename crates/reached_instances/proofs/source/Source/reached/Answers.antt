use Rattle.std.proofs.Common.{◌∙◌, List, map, refl, sym, ap, subst}
use Rattle.fip_trees.specs.Least.{after}
use Rattle.closed_types.specs.declared.mentions.CallSite.{CallSite}
use Rattle.closed_types.specs.Instances.{all_use_faults}
use Rattle.closed_types.specs.MentionsView.{use_of}
use Rattle.closed_types.specs.SharedTrees.{trees}
use Rattle.closed_types.specs.Source.{Instance}
use Rattle.reached_instances.specs.SourceView.{source, instance}
use Rattle.closed_types.specs.Uses.{closed_function, use_faults}
use Rattle.closed_types.specs.UsesView.{IsPlaceOf}
use Rattle.reached_instances.proofs.Closing.{instance_kept}
use Rattle.closed_types.proofs.Growing.{grows_same, grows_more, within_more}
use Rattle.closed_types.proofs.Lists.{walk_step}
use Rattle.reached_instances.proofs.Reaching.{AreReached, reached_starts, reached_goes, reached_ends}
use Rattle.reached_instances.proofs.source.Source.reached.Goals as goal

pub loop-site-init : goal.loop-site-init
loop-site-init c = record {
  grows = grows_same c.args.shared.now.branches;
  right = λ r w. r;
  reached = λ r w. subst (λ is. AreReached (source c.args.self.now) (instance (trees c.args.shared.now.branches) c.args.here.now) c.args.sites.now c.args.shared.now.branches is 0) (sym c.new-places.ensures.items) (reached_starts (source c.args.self.now) (instance (trees c.args.shared.now.branches) c.args.here.now) c.args.sites.now c.args.shared.now.branches);
  faults = λ r w. refl;
}

pub loop-site-preserved : goal.loop-site-preserved
loop-site-preserved c =
    let s = source c.args.self.now in
    let here = c.args.here.now in
    let old = c.args.shared.now.branches in
    let mid = c.loop-site.shared.branches in
    let new = c.closed_use.new.shared.branches in
    let h = instance (trees old) here in
    let grows = c.loop-site.invariant.grows in
    let x = c.site-item.result in
    record {
      grows = grows_more old mid new grows c.in_ok-callee.ensures.grows;
      right = λ r w. c.in_ok-callee.ensures.right (c.loop-site.invariant.right r w) (within_more old mid here.given.items grows w);
      reached = λ r w.
          let same = instance_kept here old mid grows w in
          let found = c.in_ok-callee.ensures.closed (c.loop-site.invariant.right r w) (within_more old mid here.given.items grows w) in
          reached_goes s h c.args.sites.now mid new c.loop-site.places.items c.put_some.new.places.items c.loop-site.site-index x c.in_ok-callee.callee c.loop-site-test.true c.site-item.is c.in_ok-callee.ensures.grows
          (subst (λ (j : Instance). IsPlaceOf new c.in_ok-callee.callee (closed_function s j (use_of x))) same found) c.in_ok-put_some.ensures (c.loop-site.invariant.reached r w);
      faults = λ r w.
          let same = instance_kept here old mid grows w in
          let noted = c.in_ok-callee.ensures.faults (c.loop-site.invariant.right r w) (within_more old mid here.given.items grows w) in
          walk_step (λ y. use_faults s here.number h (use_of y)) (λ ys. all_use_faults s here.number h (map use_of ys)) (λ (y : CallSite) (ys : List CallSite). refl) c.args.sites.now c.loop-site.site-index x c.loop-site.least c.closed_use.new.least c.loop-site-test.true c.site-item.is
          (noted ∙ ap (λ (j : Instance). after c.loop-site.least (use_faults s here.number j (use_of x))) same)
          ∙ c.loop-site.invariant.faults r w;
    }

pub returns-clause-grows : goal.returns-clause-grows
returns-clause-grows c = c.loop-site.invariant.grows

pub returns-clause-right : goal.returns-clause-right
returns-clause-right c = c.loop-site.invariant.right

pub returns-clause-within : goal.returns-clause-within
returns-clause-within c = λ r w. (c.loop-site.invariant.reached r w).within

pub returns-clause-trees : goal.returns-clause-trees
returns-clause-trees c = λ r w. reached_ends (source c.args.self.now) (instance (trees c.args.shared.now.branches) c.args.here.now) c.args.sites.now c.loop-site.shared.branches c.loop-site.places.items c.loop-site.site-index c.loop-site-test.false (c.loop-site.invariant.reached r w)
