use Rattle.std.proofs.Common.{◌∙◌, ◌++◌, ℕ, List, [], ◌∷◌, ap, sym, subst}
use Rattle.fip_base.specs.fip_language.Mentions.{all_of}
use Rattle.closed_types.specs.declared.closed.Head.TheVariants as H
use Rattle.closed_types.specs.Closed.{Applied, Closed, NoClosed}
use Rattle.closed_types.specs.SharedTrees.{AreWithin, all_at, trees, trees_at}
use Rattle.reached_instances.specs.SourceView.{source}
use Rattle.closed_types.specs.TypeInstances.{types_given, types_of_instance}
use Rattle.reached_instances.proofs.Closing.{kept_all}
use Rattle.closed_types.proofs.Growing.{within_more}
use Rattle.reached_instances.proofs.Putting.{put_more, put_place}
use Rattle.reached_instances.proofs.Typing.{roots_kept}
use Rattle.reached_instances.proofs.type_instances.TypeInstancesReaching.starts.Goals as goal

pub returns : goal.returns
returns c = record {
  started = λ r.
      let self = c.args.self.now in
      let s = self.source.now in
      let is = self.instances.now in
      let ps = self.passed.now in
      let old = c.args.shared.now in
      let k1 = c.share.new.self in
      let k2 = c.put_instances.new.shared in
      let none = c.new-places.ensures.items in
      let empty = c.new.ensures.items in
      let zero = c.new-places.result.items in
      let start : AreWithin old.branches zero = subst (AreWithin old.branches) (sym none) tt in
      let p1 = put_place old k1 zero c.push.new.self.items c.in_ok-bool_place.bool_place (Applied (H.«Type» 1) NoClosed) c.in_ok-bool_place.ensures.grows c.in_ok-bool_place.ensures.fits start c.in_ok-bool_place.ensures.within
      (c.in_ok-bool_place.ensures.place (subst (AreWithin old.branches) (sym empty) tt) ∙ ap (λ (js : List ℕ). Applied (H.«Type» 1) (trees_at (trees old.branches) js)) empty) c.in_ok-push.ensures.items in
      let g1 = c.in_ok-bool_place.ensures.grows in
      let p2 = c.in_ok-put_instances.ensures r.right.looked_up (subst (AreWithin k1.branches) (sym c.as_slice.ensures.same) (within_more old.branches k1.branches is g1 r.instances)) p1.within in
      let p3 = c.in_ok-put_passed.ensures p2.within in
      let a = all_of (types_of_instance (source s)) (all_at (trees k1.branches) c.as_slice.result.now) in
      let b = all_of types_given (all_at (trees k2.branches) c.as_slice-2.result.now) in
      let bool_ = Applied (H.«Type» 1) NoClosed ∷ [] in
      let all = put_more old k1 k2 zero c.push.new.self.items c.put_passed.new.places.items bool_ (a ++ b) p1 (put_more k1 k2 k2 c.push.new.self.items c.put_instances.new.places.items c.put_passed.new.places.items a b p2 p3) in
      record {
        grows = all.grows;
        right = roots_kept s is ps old k2 all.grows all.fits r;
        within = all.within;
        trees =
            all.trees
            ∙ ap (λ (js : List ℕ). all_at (trees old.branches) js ++ (bool_ ++ (a ++ b))) none
            ∙ ap (λ (xs : List Closed). bool_ ++ (all_of (types_of_instance (source s)) xs ++ b)) (ap (all_at (trees k1.branches)) c.as_slice.ensures.same ∙ kept_all old.branches k1.branches is g1 r.instances)
            ∙ ap (λ (xs : List Closed). bool_ ++ (all_of (types_of_instance (source s)) (all_at (trees old.branches) is) ++ all_of types_given xs)) (ap (all_at (trees k2.branches)) c.as_slice-2.ensures.same ∙ kept_all old.branches k2.branches ps all.grows r.passed);
      };
}
