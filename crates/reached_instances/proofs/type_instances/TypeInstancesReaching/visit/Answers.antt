use Rattle.std.proofs.Common.{◌∙◌, ◌++◌, ℕ, List, ap, sym, subst, Some}
use Rattle.fip_base.specs.fip_language.Mentions.{all_of}
use Rattle.closed_types.specs.Closed.{Closed, Closeds, arguments_of}
use Rattle.closed_types.specs.SharedTrees.{AreWithin, all_at, tree_at, trees, trees_at}
use Rattle.closed_types.specs.Source.{declared_at}
use Rattle.reached_instances.specs.SourceView.{source}
use Rattle.closed_types.specs.TypeInstances.{fields_of, unless_int, unless_ints}
use Rattle.reached_instances.proofs.Fielding.{unless_at}
use Rattle.reached_instances.proofs.Putting.{put_more}
use Rattle.reached_instances.proofs.Typing.{parts_of_function, parts_of_int, parts_of_type, roots_kept}
use Rattle.reached_instances.proofs.type_instances.TypeInstancesReaching.visit.Goals as goal

pub returns-in-Some-Type-clause-visited : goal.returns-in-Some-Type-clause-visited
returns-in-Some-Type-clause-visited c = λ r.
    let self = c.args.self.now in
    let s = self.source.now in
    let old = c.args.shared.now in
    let new = c.put_fields.new.shared in
    let t = tree_at (trees old.branches) c.args.place in
    let none = c.new-places.ensures.items in
    let zero = c.new-places.result.items in
    let given = c.in_ok-given.ensures in
    let n = c.in-Some-Type.number in
    let p1 = c.in_ok-put_all.ensures (subst (AreWithin old.branches) (sym none) tt) (subst (AreWithin old.branches) (sym c.deref.ensures.value) given.within) in
    let p2 = c.in_ok-put_fields-in-Some-Type.ensures (subst (AreWithin old.branches) (sym c.deref-in-Some-Type.ensures.value) given.within) p1.within in
    let all = put_more old old new zero c.put_all.new.places.items c.put_fields.new.places.items _ _ p1 p2 in
    record {
      grows = all.grows;
      right = roots_kept s self.instances.now self.passed.now old new all.grows all.fits r;
      within = all.within;
      trees =
          all.trees
          ∙ ap (λ (js : List ℕ). all_at (trees old.branches) js ++ (all_of unless_int (all_at (trees old.branches) c.deref.result.now) ++ fields_of (trees_at (trees old.branches) c.deref-in-Some-Type.result.now) (declared_at (source s) n))) none
          ∙ ap (λ (cs : List Closed). cs ++ fields_of (trees_at (trees old.branches) c.deref-in-Some-Type.result.now) (declared_at (source s) n)) (ap (λ (js : List ℕ). all_of unless_int (all_at (trees old.branches) js)) c.deref.ensures.value ∙ sym (unless_at (trees old.branches) c.in_ok-given.given.items) ∙ ap unless_ints given.trees)
          ∙ ap (λ (cs : Closeds). unless_ints (arguments_of t) ++ fields_of cs (declared_at (source s) n)) (ap (trees_at (trees old.branches)) c.deref-in-Some-Type.ensures.value ∙ given.trees)
          ∙ parts_of_type (source s) t n (sym c.head_at.ensures ∙ c.in-Some-Type.is ∙ ap Some c.in-Some-Type.field-0-is);
    }

pub returns-in-Some-Function-clause-visited : goal.returns-in-Some-Function-clause-visited
returns-in-Some-Function-clause-visited c = λ r.
    let s = c.args.self.now.source.now in
    let old = c.args.shared.now in
    let t = tree_at (trees old.branches) c.args.place in
    let none = c.new-places.ensures.items in
    let given = c.in_ok-given.ensures in
    let p1 = c.in_ok-put_all.ensures (subst (AreWithin old.branches) (sym none) tt) (subst (AreWithin old.branches) (sym c.deref.ensures.value) given.within) in
    record {
      grows = p1.grows;
      right = r;
      within = p1.within;
      trees =
          p1.trees
          ∙ ap (λ (js : List ℕ). all_at (trees old.branches) js ++ all_of unless_int (all_at (trees old.branches) c.deref.result.now)) none
          ∙ (ap (λ (js : List ℕ). all_of unless_int (all_at (trees old.branches) js)) c.deref.ensures.value ∙ sym (unless_at (trees old.branches) c.in_ok-given.given.items) ∙ ap unless_ints given.trees)
          ∙ parts_of_function (source s) t c.in-Some-Function.field-0-0 (sym c.head_at.ensures ∙ c.in-Some-Function.is ∙ ap Some c.in-Some-Function.field-0-is);
    }

pub returns-clause-visited : goal.returns-clause-visited
returns-clause-visited c = λ r.
    let s = c.args.self.now.source.now in
    let old = c.args.shared.now in
    let t = tree_at (trees old.branches) c.args.place in
    let none = c.new-places.ensures.items in
    let given = c.in_ok-given.ensures in
    let p1 = c.in_ok-put_all.ensures (subst (AreWithin old.branches) (sym none) tt) (subst (AreWithin old.branches) (sym c.deref.ensures.value) given.within) in
    record {
      grows = p1.grows;
      right = r;
      within = p1.within;
      trees =
          p1.trees
          ∙ ap (λ (js : List ℕ). all_at (trees old.branches) js ++ all_of unless_int (all_at (trees old.branches) c.deref.result.now)) none
          ∙ (ap (λ (js : List ℕ). all_of unless_int (all_at (trees old.branches) js)) c.deref.ensures.value ∙ sym (unless_at (trees old.branches) c.in_ok-given.given.items) ∙ ap unless_ints given.trees)
          ∙ parts_of_int (source s) t (sym c.head_at.ensures ∙ c.in-None.is);
    }
