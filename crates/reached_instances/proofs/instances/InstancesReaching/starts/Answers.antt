use Rattle.std.proofs.Common.{◌≤◌, ◌+◌, ◌∙◌, ℕ, List, map, refl, ap, sym, subst}
use Rattle.fip_base.specs.CoreView.{static}
use Rattle.fip_base.specs.declared.core_form.Static.{Static}
use Rattle.reached_instances.specs.declared.source.FunctionSource.{FunctionSource}
use Rattle.closed_types.specs.Instances.{root_if, roots_from}
use Rattle.reached_instances.specs.SourceView.{function_source}
use Rattle.reached_instances.proofs.Declaring.{map_length}
use Rattle.reached_instances.proofs.Fitting.{right_kept}
use Rattle.closed_types.proofs.Growing.{grows_same, grows_more}
use Rattle.closed_types.proofs.Lists.{mapped_item}
use Rattle.reached_instances.proofs.Putting.{put_as}
use Rattle.reached_instances.proofs.Reaching.{AreRooted, rooted_ends, rooted_put, rooted_starts}
use Rattle.reached_instances.proofs.instances.InstancesReaching.starts.Goals as goal

pub loop-found-init : goal.loop-found-init
loop-found-init c = record {
  number = refl;
  grows = grows_same c.args.shared.now.branches;
  fits = refl;
  rooted = subst (λ (is : List ℕ). AreRooted (map function_source c.deref-found-items.result.now) c.args.shared.now.branches is 0) (sym c.new-places.ensures.items) (rooted_starts (map function_source c.deref-found-items.result.now) c.args.shared.now.branches);
}

pub loop-found-preserved : goal.loop-found-preserved
loop-found-preserved c =
    let fs = c.deref-found-items.result.now in
    let old = c.args.shared.now in
    let mid = c.loop-found.shared in
    let new = c.put_root.new.shared in
    let x = c.found-item.result in
    let n = c.loop-found.found-index in
    let is = c.loop-found.places.items in
    let js = c.put_root.new.places.items in
    let p = put_as mid new is js _ _ (ap (λ (k : ℕ). root_if (map static c.deref.result.now) k) c.loop-found.invariant.number ∙ ap (λ (ss : List Static). root_if (map static ss) n) c.deref.ensures.value) (c.in_ok-put_root.ensures c.loop-found.invariant.rooted.within) in
    record {
      number = ap (λ k. k + 1) c.loop-found.invariant.number;
      grows = grows_more old.branches mid.branches new.branches c.loop-found.invariant.grows p.grows;
      fits = p.fits ∙ c.loop-found.invariant.fits;
      rooted = rooted_put (map function_source fs) mid new is js n (function_source x) (mapped_item function_source fs n x c.loop-found-test.true c.found-item.is) p c.loop-found.invariant.rooted;
    }

pub returns : goal.returns
returns c = record {
  started = λ r.
      let fs = c.deref-found-items.result.now in
      let old = c.args.shared.now in
      let new = c.loop-found.shared in
      record {
        grows = c.loop-found.invariant.grows;
        right = right_kept c.args.self.now.source.now old new c.loop-found.invariant.grows c.loop-found.invariant.fits r;
        within = c.loop-found.invariant.rooted.within;
        trees =
            rooted_ends (map function_source fs) new.branches c.loop-found.places.items c.loop-found.found-index (subst (λ (n : ℕ). n ≤ c.loop-found.found-index) (sym (map_length function_source fs)) c.loop-found-test.false) c.loop-found.invariant.rooted
            ∙ ap (λ (ys : List FunctionSource). roots_from 0 (map function_source ys)) c.deref-found-items.ensures.value;
      };
}
