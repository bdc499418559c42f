use Rattle.std.proofs.Common.{◌∙◌, ap, sym, subst}
use Rattle.closed_types.specs.SharedTrees.{AreWithin, all_at, trees}
use Rattle.closed_types.proofs.Growing.{grows_same}
use Rattle.reached_instances.proofs.instances.PassedReaching.starts.Goals as goal

pub returns : goal.returns
returns c = record {
  started = λ r.
      let k = c.args.arg3.now in
      let e = c.in_ok-places.ensures ∙ c.as_slice.ensures.same in
      record {
        grows = grows_same k.branches;
        right = r;
        within = subst (AreWithin k.branches) (sym e) r.instances;
        trees = ap (all_at (trees k.branches)) e;
      };
}
