use Rattle.std.proofs.Common.{◌∙◌, refl, sym, ap, subst}
use Rattle.fip_base.specs.CoreView.{written}
use Rattle.closed_types.specs.SharedTrees.{trees}
use Rattle.closed_types.specs.Source.{Instance}
use Rattle.reached_instances.specs.SourceView.{source, instance}
use Rattle.closed_types.specs.Uses.{declared_type}
use Rattle.reached_instances.proofs.Closing.{instance_kept, ready_more}
use Rattle.reached_instances.proofs.Declaring.{AreDeclared, declared_starts, declared_goes, declared_ends}
use Rattle.closed_types.proofs.Growing.{grows_same, grows_more}
use Rattle.reached_instances.proofs.source.Source.declared_types.Goals as goal

pub loop-written-init : goal.loop-written-init
loop-written-init c = record {
  grows = grows_same c.args.shared.now.branches;
  fits = refl;
  declared = λ r. subst (λ is. AreDeclared (source c.args.self.now) (instance (trees c.args.shared.now.branches) c.args.here.now) c.args.list.now c.args.shared.now.branches is 0) (sym c.new-places.ensures.items) (declared_starts (source c.args.self.now) (instance (trees c.args.shared.now.branches) c.args.here.now) c.args.list.now c.args.shared.now.branches);
}

pub loop-written-preserved : goal.loop-written-preserved
loop-written-preserved c =
    let s = source c.args.self.now in
    let here = c.args.here.now in
    let old = c.args.shared.now.branches in
    let mid = c.loop-written.shared.branches in
    let new = c.declared_type.new.shared.branches in
    let grows = c.loop-written.invariant.grows in
    record {
      grows = grows_more old mid new grows c.in_ok-place.ensures.grows;
      fits = c.in_ok-place.ensures.fits ∙ c.loop-written.invariant.fits;
      declared = λ r.
          let kept = ready_more c.args.self.now old mid here grows r in
          let same = instance_kept here old mid grows r.within in
          declared_goes s (instance (trees old) here) c.args.list.now mid new c.loop-written.places.items c.push.new.self.items c.loop-written.written-index c.in_ok-place.place c.written-item.result c.loop-written-test.true c.written-item.is c.in_ok-place.ensures.grows (c.in_ok-place.ensures.within kept)
          (c.in_ok-place.ensures.tree kept ∙ ap (λ (j : Instance). declared_type s j (written c.written-item.result)) same)
          c.in_ok-push.ensures.items (c.loop-written.invariant.declared r);
    }

pub returns-clause-grows : goal.returns-clause-grows
returns-clause-grows c = c.loop-written.invariant.grows

pub returns-clause-fits : goal.returns-clause-fits
returns-clause-fits c = c.loop-written.invariant.fits

pub returns-clause-within : goal.returns-clause-within
returns-clause-within c = λ r. (c.loop-written.invariant.declared r).within

pub returns-clause-trees : goal.returns-clause-trees
returns-clause-trees c = λ r. declared_ends (source c.args.self.now) (instance (trees c.args.shared.now.branches) c.args.here.now) c.args.list.now c.loop-written.shared.branches c.loop-written.places.items c.loop-written.written-index c.loop-written-test.false (c.loop-written.invariant.declared r)
