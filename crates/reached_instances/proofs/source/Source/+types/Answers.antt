use Rattle.std.proofs.Common.{◌≡◌, ◌∙◌, sym, ap, subst, refl, Some, true, List, length, arith}
use Rattle.fip_base.specs.CoreView.{written, writtens}
use Rattle.fip_base.specs.declared.core_form.Written.{Written}
use Rattle.fip_base.specs.fip_language.Core.{WrittenName}
use Rattle.fip_trees.specs.Least.{after}
use Rattle.closed_types.specs.SharedTrees.{trees}
use Rattle.closed_types.specs.Source.{Instance}
use Rattle.closed_types.specs.UsesView.{IsPlaceOf}
use Rattle.reached_instances.specs.SourceView.{source, instance}
use Rattle.closed_types.specs.Uses.{closed_type, type_faults, types_faults}
use Rattle.closed_types.proofs.Growing.{grows_same, grows_more}
use Rattle.closed_types.proofs.Lists.{walk_step}
use Rattle.closed_types.proofs.SharedAt.{int_first}
use Rattle.reached_instances.proofs.Closing.{IsClosing, instance_kept, ready_more, written_int, written_named, count_writtens, closing_starts, closing_goes, closing_ends, named_place, named_noted}
use Rattle.reached_instances.proofs.source.Source.+types.Goals as goal

-- ---- int

pub closed_type-returns-in-Int-clause-grows : goal.closed_type-returns-in-Int-clause-grows
closed_type-returns-in-Int-clause-grows t c = grows_same c.args.shared.now.branches

pub closed_type-returns-in-Int-clause-closed : goal.closed_type-returns-in-Int-clause-closed
closed_type-returns-in-Int-clause-closed t c = λ w.
    let s = source c.args.self.now in
    let h = instance (trees c.args.shared.now.branches) c.args.here.now in
    record {
      within = omega arith;
      tree = ap (λ x. Some x) (int_first c.args.shared.now.branches) ∙ sym (ap (closed_type s h) (ap written c.in-Int.is ∙ written_int c.in-Int.field-0));
    }

pub closed_type-returns-in-Int-clause-faults : goal.closed_type-returns-in-Int-clause-faults
closed_type-returns-in-Int-clause-faults t c = λ w.
    let s = source c.args.self.now in
    let h = instance (trees c.args.shared.now.branches) c.args.here.now in
    sym (ap (λ v. after c.args.least.now (type_faults s c.args.here.now.number h v)) (ap written c.in-Int.is ∙ written_int c.in-Int.field-0))

-- ---- a name

pub closed_type-returns-in_ok-found-in-Named-clause-grows : goal.closed_type-returns-in_ok-found-in-Named-clause-grows
closed_type-returns-in_ok-found-in-Named-clause-grows t c = grows_more c.args.shared.now.branches c.closed_types.new.shared.branches c.named_type.new.shared.branches c.in_ok-closed-in-Named.ensures.grows c.in_ok-found-in-Named.ensures.grows

pub closed_type-returns-in_ok-found-in-Named-clause-closed : goal.closed_type-returns-in_ok-found-in-Named-clause-closed
closed_type-returns-in_ok-found-in-Named-clause-closed t c = λ w.
    let s = source c.args.self.now in
    let view = ap written c.in-Named.is ∙ written_named c.in-Named.name c.in-Named.place c.in-Named.arguments ∙ ap (λ (ws : List Written). WrittenName c.in-Named.name c.in-Named.place (writtens ws)) (sym c.deref.ensures.value) in
    let places = c.in_ok-closed-in-Named.ensures.closed w in
    let kept = ready_more c.args.self.now c.args.shared.now.branches c.closed_types.new.shared.branches c.args.here.now c.in_ok-closed-in-Named.ensures.grows w in
    named_place s c.args.here.now c.args.shared.now.branches c.closed_types.new.shared.branches c.named_type.new.shared.branches (written c.args.written.now) c.in-Named.name c.as_slice.result.now c.in-Named.place (writtens c.deref.result.now) c.len-count.result c.in_ok-closed-in-Named.closed c.in_ok-found-in-Named.found w.within c.in_ok-closed-in-Named.ensures.grows view c.as_slice.ensures.same (let e : c.len-count.result ≡ length c.deref.result.now = cc in e ∙ sym (count_writtens c.deref.result.now)) places (c.in_ok-found-in-Named.ensures.closed kept places.within)

pub closed_type-returns-in_ok-found-in-Named-clause-faults : goal.closed_type-returns-in_ok-found-in-Named-clause-faults
closed_type-returns-in_ok-found-in-Named-clause-faults t c = λ w.
    let s = source c.args.self.now in
    let view = ap written c.in-Named.is ∙ written_named c.in-Named.name c.in-Named.place c.in-Named.arguments ∙ ap (λ (ws : List Written). WrittenName c.in-Named.name c.in-Named.place (writtens ws)) (sym c.deref.ensures.value) in
    let kept = ready_more c.args.self.now c.args.shared.now.branches c.closed_types.new.shared.branches c.args.here.now c.in_ok-closed-in-Named.ensures.grows w in
    named_noted s c.args.here.now.number c.args.here.now c.args.shared.now.branches c.closed_types.new.shared.branches (written c.args.written.now) c.in-Named.name c.as_slice.result.now c.in-Named.place (writtens c.deref.result.now) c.len-count.result c.args.least.now c.closed_types.new.least c.named_type.new.least w.within c.in_ok-closed-in-Named.ensures.grows view c.as_slice.ensures.same (let e : c.len-count.result ≡ length c.deref.result.now = cc in e ∙ sym (count_writtens c.deref.result.now)) (c.in_ok-closed-in-Named.ensures.faults w) (c.in_ok-found-in-Named.ensures.faults kept)

pub closed_type-returns-in_ok-found-in-Named-clause-fits : goal.closed_type-returns-in_ok-found-in-Named-clause-fits
closed_type-returns-in_ok-found-in-Named-clause-fits t c = c.in_ok-found-in-Named.ensures.fits ∙ c.in_ok-closed-in-Named.ensures.fits

-- ---- a list

pub closed_types-loop-written-init : goal.closed_types-loop-written-init
closed_types-loop-written-init t c =
    record {
      grows = grows_same c.args.shared.now.branches;
      fits = refl;
      closing = λ w. subst (λ is. IsClosing (source c.args.self.now) (instance (trees c.args.shared.now.branches) c.args.here.now) c.args.list.now c.args.shared.now.branches is true 0) (sym c.new-places.ensures.items) (closing_starts (source c.args.self.now) (instance (trees c.args.shared.now.branches) c.args.here.now) c.args.list.now c.args.shared.now.branches);
      faults = λ w. refl;
    }

pub closed_types-loop-written-preserved : goal.closed_types-loop-written-preserved
closed_types-loop-written-preserved t c =
    let s = source c.args.self.now in
    let here = c.args.here.now in
    let h = instance (trees c.args.shared.now.branches) here in
    let grows = c.loop-written.invariant.grows in
    let x = c.written-item.result in
    record {
      grows = grows_more c.args.shared.now.branches c.loop-written.shared.branches c.closed_type.new.shared.branches grows c.in_ok-found.ensures.grows;
      fits = c.in_ok-found.ensures.fits ∙ c.loop-written.invariant.fits;
      closing = λ w.
          let same = instance_kept here c.args.shared.now.branches c.loop-written.shared.branches grows w.within in
          let kept = ready_more c.args.self.now c.args.shared.now.branches c.loop-written.shared.branches here grows w in
          closing_goes s h c.args.list.now c.loop-written.shared.branches c.closed_type.new.shared.branches c.loop-written.places.items c.push_some.new.places.items c.loop-written.all c.in_ok-is_found.is_found c.both-next.result c.loop-written.written-index x c.in_ok-found.found c.loop-written-test.true c.written-item.is c.in_ok-found.ensures.grows
          (subst (λ (j : Instance). IsPlaceOf c.closed_type.new.shared.branches c.in_ok-found.found (closed_type s j (written x))) same (c.in_ok-found.ensures.closed kept))
          c.in_ok-is_found.ensures.pushed c.in_ok-is_found.ensures.some c.both-next.ensures (c.loop-written.invariant.closing w);
      faults = λ w.
          let same = instance_kept here c.args.shared.now.branches c.loop-written.shared.branches grows w.within in
          let kept = ready_more c.args.self.now c.args.shared.now.branches c.loop-written.shared.branches here grows w in
          walk_step (λ v. type_faults s here.number h (written v)) (λ vs. types_faults s here.number h (writtens vs)) (λ (v : Written) (vs : List Written). refl) c.args.list.now c.loop-written.written-index x c.loop-written.least c.closed_type.new.least c.loop-written-test.true c.written-item.is
          (c.in_ok-found.ensures.faults kept ∙ ap (λ (j : Instance). after c.loop-written.least (type_faults s here.number j (written x))) same)
          ∙ c.loop-written.invariant.faults w;
    }

pub closed_types-returns-then-all-clause-closed : goal.closed_types-returns-then-all-clause-closed
closed_types-returns-then-all-clause-closed t c = λ w.
    closing_ends (source c.args.self.now) (instance (trees c.args.shared.now.branches) c.args.here.now) c.args.list.now c.loop-written.shared.branches c.loop-written.places c.loop-written.all c.loop-written.written-index c.loop-written-test.false c.if-all.true (c.loop-written.invariant.closing w)
