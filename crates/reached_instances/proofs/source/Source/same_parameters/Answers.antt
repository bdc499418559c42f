use Rattle.std.proofs.Common.{◌≡◌, ◌+◌, ◌∙◌, ℕ, ◌∷◌, map, drop, ap, sym, subst, arith}
use Rattle.fip_base.specs.CoreView.{parameter, signature_parameter}
use Rattle.closed_types.specs.SharedTrees.{trees}
use Rattle.closed_types.specs.Source.{Instance}
use Rattle.reached_instances.specs.SourceView.{source, instance}
use Rattle.closed_types.specs.UsesView.{is_same_parameter}
use Rattle.reached_instances.proofs.Closing.{instance_kept, ready_more}
use Rattle.reached_instances.proofs.Declaring.{map_length, sames, sames_end, sames_fail, sames_step}
use Rattle.reached_instances.proofs.Fitting.{unlike_parameters}
use Rattle.closed_types.proofs.Growing.{grows_more}
use Rattle.closed_types.proofs.Lists.{drop_item}
use Rattle.reached_instances.proofs.source.Source.same_parameters.Goals as goal

pub returns-then-wanted-found-clause-same : goal.returns-then-wanted-found-clause-same
returns-then-wanted-found-clause-same c = λ r q.
    let old = c.args.shared.now.branches in
    sym (unlike_parameters (source c.args.self.now) (instance (trees old) c.args.there.now) (instance (trees old) c.args.here.now) (map signature_parameter c.args.wanted.now) (map parameter c.args.found.now)
    (λ e. c.if-wanted-found.true (sym (map_length signature_parameter c.args.wanted.now) ∙ e ∙ map_length parameter c.args.found.now)))

pub returns-then-not-same-clause-same : goal.returns-then-not-same-clause-same
returns-then-not-same-clause-same c = λ r q.
    let s = source c.args.self.now in
    let old = c.args.shared.now.branches in
    let mid = c.loop-p.shared.branches in
    let k = c.loop-p.p-index in
    let there = instance (trees old) c.args.there.now in
    let here = instance (trees old) c.args.here.now in
    let x = c.p-item.result in
    let y = c.in-Some.q.now in
    let g = c.loop-p.invariant.grows in
    let d = subst (λ (n : ℕ). drop n c.args.found.now ≡ y ∷ drop (n + 1) c.args.found.now) c.loop-p.invariant.index (drop_item c.args.found.now c.loop-p.place y c.in-Some.ensures.lookup.3.0 c.in-Some.ensures.lookup.1) in
    let one = c.in_ok-same-in-Some.ensures.same (ready_more c.args.self.now old mid c.args.there.now g r) (ready_more c.args.self.now old mid c.args.here.now g q) in
    let two = ap (λ (j : Instance). is_same_parameter s j (instance (trees mid) c.args.here.now) (signature_parameter x) (parameter y)) (instance_kept c.args.there.now old mid g r.within) in
    let three = ap (λ (j : Instance). is_same_parameter s there j (signature_parameter x) (parameter y)) (instance_kept c.args.here.now old mid g q.within) in
    sames_fail s there here c.args.wanted.now c.args.found.now k x y (sames s there here c.args.wanted.now c.args.found.now) (drop_item c.args.wanted.now k x c.loop-p-test.true c.p-item.is) d
    (sym (one ∙ two ∙ three) ∙ c.if-not-same.true) (c.loop-p.invariant.same r q)

pub returns-in-None-clause-same : goal.returns-in-None-clause-same
returns-in-None-clause-same c =
    let i = c.loop-p.invariant.index in
    let h = c.loop-p-test.true in
    let l = c.in-None.ensures.lookup.3 in
    let e = c.if-wanted-found.false in
    absurd (omega (arith, i, h, l, e))

pub loop-p-preserved : goal.loop-p-preserved
loop-p-preserved c =
    let s = source c.args.self.now in
    let old = c.args.shared.now.branches in
    let mid = c.loop-p.shared.branches in
    let new = c.same_parameter.new.shared.branches in
    let k = c.loop-p.p-index in
    let there = instance (trees old) c.args.there.now in
    let here = instance (trees old) c.args.here.now in
    let x = c.p-item.result in
    let y = c.in-Some.q.now in
    let g = c.loop-p.invariant.grows in
    record {
      index = ap (λ n. n + 1) c.loop-p.invariant.index;
      grows = grows_more old mid new g c.in_ok-same-in-Some.ensures.grows;
      fits = c.in_ok-same-in-Some.ensures.fits ∙ c.loop-p.invariant.fits;
      same = λ r q.
          let d = subst (λ (n : ℕ). drop n c.args.found.now ≡ y ∷ drop (n + 1) c.args.found.now) c.loop-p.invariant.index (drop_item c.args.found.now c.loop-p.place y c.in-Some.ensures.lookup.3.0 c.in-Some.ensures.lookup.1) in
          let one = c.in_ok-same-in-Some.ensures.same (ready_more c.args.self.now old mid c.args.there.now g r) (ready_more c.args.self.now old mid c.args.here.now g q) in
          let two = ap (λ (j : Instance). is_same_parameter s j (instance (trees mid) c.args.here.now) (signature_parameter x) (parameter y)) (instance_kept c.args.there.now old mid g r.within) in
          let three = ap (λ (j : Instance). is_same_parameter s there j (signature_parameter x) (parameter y)) (instance_kept c.args.here.now old mid g q.within) in
          sames_step s there here c.args.wanted.now c.args.found.now k x y (sames s there here c.args.wanted.now c.args.found.now) (drop_item c.args.wanted.now k x c.loop-p-test.true c.p-item.is) d
          (sym (one ∙ two ∙ three) ∙ c.if-not-same.false) (c.loop-p.invariant.same r q);
    }

pub returns-clause-same : goal.returns-clause-same
returns-clause-same c = λ r q.
    let old = c.args.shared.now.branches in
    let e = c.if-wanted-found.false in
    let l = c.loop-p-test.false in
    sames_end (source c.args.self.now) (instance (trees old) c.args.there.now) (instance (trees old) c.args.here.now) c.args.wanted.now c.args.found.now c.loop-p.p-index _ l (omega (arith, e, l)) (c.loop-p.invariant.same r q)
