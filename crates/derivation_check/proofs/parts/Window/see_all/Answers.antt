use Rattle.std.proofs.Common.{subst, ap, refl, arith, sym, get_or, take, ◌+◌, ◌∙◌, ◌≡◌, ℕ}
use Rattle.derivation_check.proofs.Windows.{seen_more, seen_room, seen_all, seen_none, marked_same}
use Rattle.derivation_check.specs.Places.{Marked}
use Rattle.ownership_calculus.specs.Terms.{given, one}
use Rattle.derivation_check.proofs.parts.Window.see_all.Goals as goal

pub returns-then-not-see-clause-new : goal.returns-then-not-see-clause-new
returns-then-not-see-clause-new c f m l =
    let v = get_or c.args.variables.now c.loop-variable.variable-index 0 in
    let w = c.see.ensures.new (λ x. f x + given x (take c.loop-variable.variable-index c.args.variables.now)) (subst (λ s. Marked c.loop-variable.self.seen s c.args.whole.now (λ x. f x + given x (take c.loop-variable.variable-index c.args.variables.now))) (sym c.loop-variable.invariant.start) (c.loop-variable.invariant.seen f m)) (seen_room c.args.variables.now c.loop-variable.variable-index v (f v) (given v c.args.whole.now) c.loop-variable-test.true refl (l v)) in
    let t = c.if-not-see.true in cc

pub loop-variable-preserved : goal.loop-variable-preserved
loop-variable-preserved c = record {
  start = c.see.ensures.start ∙ c.loop-variable.invariant.start;
  seen = λ f m.
      let v = get_or c.args.variables.now c.loop-variable.variable-index 0 in
      let g : ℕ → ℕ = λ x. f x + given x (take c.loop-variable.variable-index c.args.variables.now) in
      marked_same c.see.new.self.seen c.args.self.now.start c.args.whole.now (λ x. g x + one v x) (λ x. f x + given x (take (c.loop-variable.variable-index + 1) c.args.variables.now))
      (λ x. let e = seen_more c.args.variables.now c.loop-variable.variable-index v x c.loop-variable-test.true refl in omega arith)
      (subst (λ s. Marked c.see.new.self.seen s c.args.whole.now (λ x. g x + one v x)) c.loop-variable.invariant.start (c.see.ensures.seen c.if-not-see.false g (subst (λ s. Marked c.loop-variable.self.seen s c.args.whole.now g) (sym c.loop-variable.invariant.start) (c.loop-variable.invariant.seen f m))));
  inside = λ x z.
      let v = get_or c.args.variables.now c.loop-variable.variable-index 0 in
      let e = seen_more c.args.variables.now c.loop-variable.variable-index v x c.loop-variable-test.true refl in
      let i = c.loop-variable.invariant.inside x z in
      let k = seen_none v x c.args.whole.now z (c.see.ensures.inside c.if-not-see.false) in omega arith;
}

pub returns-clause-seen : goal.returns-clause-seen
returns-clause-seen c t f m = marked_same c.loop-variable.self.seen c.args.self.now.start c.args.whole.now (λ x. f x + given x (take c.loop-variable.variable-index c.args.variables.now)) (λ x. f x + given x c.args.variables.now) (λ x. let e = seen_all c.args.variables.now c.loop-variable.variable-index x c.loop-variable-test.false in omega arith) (c.loop-variable.invariant.seen f m)
