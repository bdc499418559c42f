use Rattle.std.proofs.Common.{subst, ap, refl, arith, sym, get_or, ◌+◌, ◌-◌, ◌∙◌, ◌≡◌, ℕ, length}
use Rattle.ownership_calculus.specs.Terms.{given, Own}
use Rattle.derivation_check.specs.Owned.{roots}
use Rattle.derivation_check.specs.Places.{Marked, parts}
use Rattle.derivation_check.proofs.Rows.{roots_first, roots_none}
use Rattle.derivation_check.proofs.Windows.{WindowAt, window_start, window_step, window_room, window_sound, window_inside, window_complete}
use Rattle.derivation_check.proofs.parts.is_parted_from.Goals as goal

pub loop-left-init : goal.loop-left-init
loop-left-init c = record {
  start = c.new-window.ensures.start;
  window = window_start c.new-window.result.seen c.args.start c.args.whole.now (parts c.args.nodes.now c.args.first c.args.count) c.new-window.ensures.none;
}

pub returns-then-not-see_all-clause-complete : goal.returns-then-not-see_all-clause-complete
returns-then-not-see_all-clause-complete c h =
    let w = c.loop-left.invariant.window in
    let e : (x : ℕ) → roots (parts c.args.nodes.now c.loop-left.place c.loop-left.left) (Own x) ≡ given x c.variables_at.result.now + roots (parts c.args.nodes.now (Rattle.derivation_check.specs.Places.following c.args.nodes.now c.loop-left.place) (c.loop-left.left - 1)) (Own x) = λ x. roots_first c.args.nodes.now c.loop-left.place (Rattle.derivation_check.specs.Places.following c.args.nodes.now c.loop-left.place) c.loop-left.left c.loop-left-test.true refl (Own x) ∙ ap (λ m. m + roots (parts c.args.nodes.now (Rattle.derivation_check.specs.Places.following c.args.nodes.now c.loop-left.place) (c.loop-left.left - 1)) (Own x)) (c.variables_at.ensures.counted x) in
    let g = c.see_all.ensures.new w.counted (subst (λ s. Marked c.loop-left.window.seen s c.args.whole.now w.counted) (sym c.loop-left.invariant.start) w.marked) (window_room c.loop-left.window.seen c.args.start c.args.whole.now c.variables_at.result.now (parts c.args.nodes.now c.loop-left.place c.loop-left.left) (parts c.args.nodes.now (Rattle.derivation_check.specs.Places.following c.args.nodes.now c.loop-left.place) (c.loop-left.left - 1)) (parts c.args.nodes.now c.args.first c.args.count) w e h) in
    let t = c.if-not-see_all.true in cc

pub loop-left-preserved : goal.loop-left-preserved
loop-left-preserved c = record {
  start = c.see_all.ensures.start ∙ c.loop-left.invariant.start;
  window = window_step c.loop-left.window.seen c.see_all.new.self.seen c.args.start c.args.whole.now c.variables_at.result.now (parts c.args.nodes.now c.loop-left.place c.loop-left.left) (parts c.args.nodes.now c.following-place.result (c.loop-left.left - 1)) (parts c.args.nodes.now c.args.first c.args.count) c.loop-left.invariant.window
      (λ f m. subst (λ s. Marked c.see_all.new.self.seen s c.args.whole.now (λ x. f x + given x c.variables_at.result.now)) c.loop-left.invariant.start (c.see_all.ensures.seen c.if-not-see_all.false f (subst (λ s. Marked c.loop-left.window.seen s c.args.whole.now f) (sym c.loop-left.invariant.start) m)))
      (c.see_all.ensures.inside c.if-not-see_all.false)
      (λ x. roots_first c.args.nodes.now c.loop-left.place c.following-place.result c.loop-left.left c.loop-left-test.true (c.following-place.ensures.row (c.loop-left.left - 1)) (Own x) ∙ ap (λ m. m + roots (parts c.args.nodes.now c.following-place.result (c.loop-left.left - 1)) (Own x)) (c.variables_at.ensures.counted x));
}

pub returns-clause-complete : goal.returns-clause-complete
returns-clause-complete c h = c.is_full.ensures.complete (λ k a l. window_complete c.loop-left.window.seen c.args.start c.args.whole.now (parts c.args.nodes.now c.loop-left.place c.loop-left.left) (parts c.args.nodes.now c.args.first c.args.count) c.loop-left.invariant.window (λ x. roots_none c.args.nodes.now c.loop-left.place c.loop-left.left c.loop-left-test.false (Own x)) h k a (let e = c.loop-left.invariant.start in omega arith))
