use Rattle.std.proofs.Common.{rules, refl, sym, ap, ◌∙◌, ◌∷◌, subst, Bool, true, false, arith}
use Rattle.fip_trees.specs.TreeView.{pattern}
use Rattle.instance_semantics.specs.Matching.{matching}
use Rattle.plain_rows.specs.Rows.{count_rows}
use Rattle.plain_rows.proofs.Standing.{sides}
use Rattle.plain_eval.specs.Choosing.{Matches}
use Rattle.plain_eval.proofs.Choosing.{binder_view, AreLeft, left_init, left_matched, left_fails, left_none, lengths_differ, node_result}
use Rattle.plain_eval.proofs.patterns.«+matches».Goals as goal

pub all_match-returns-then-patterns-values-clause-matches : goal.all_match-returns-then-patterns-values-clause-matches
all_match-returns-then-patterns-values-clause-matches t c = λ env vs h a.
    let s = c.args.store.now in
    subst (λ o. Matches o env s c.args.variables.now false) (sym (lengths_differ c.args.patterns.now s (count_rows s) c.args.values.now vs c.if-patterns-values.true a)) refl

pub matches-returns-in_ok-bind-in-Binder-clause-matches : goal.matches-returns-in_ok-bind-in-Binder-clause-matches
matches-returns-in_ok-bind-in-Binder-clause-matches t c = λ env v h a.
    let s = c.args.store.now in
    subst (λ q. Matches (matching q v) env s c.bind.new.self true) (sym (ap pattern c.in-Binder.is ∙ binder_view c.in-Binder.binder)) (refl, c.in_ok-bind-in-Binder.ensures.covers s env v h a)

pub matches-returns-then-is_tagged-clause-matches : goal.matches-returns-then-is_tagged-clause-matches
matches-returns-then-is_tagged-clause-matches t c =
    node_result c.args.store.now c.args.variables.now c.all_match.new.variables c.args.value c.args.pattern.now _ _ _ _ _ _ c.as_slice.result.now c.fields_of.result.now c.is_tagged.result c.all_match.result c.in-Constructor.is c.as_slice.ensures.value c.if-is_tagged.true c.is_tagged.ensures.int c.is_tagged.ensures.node c.fields_of.ensures.fields c.all_match.ensures.matches

pub all_match-loop-pattern-init : goal.all_match-loop-pattern-init
all_match-loop-pattern-init t c = record {
  keeps = λ i v h. h;
  longer = omega arith;
  left = λ env vs h a. left_init c.args.store.now c.args.patterns.now _ _ c.args.values.now vs env c.args.variables.now (search rules) (search rules) c.if-patterns-values.false h a;
}

pub all_match-returns-then-not-branch-clause-matches : goal.all_match-returns-then-not-branch-clause-matches
all_match-returns-then-not-branch-clause-matches t c = λ env vs h a.
    let s = c.args.store.now in
    let all = c.args.patterns.now in
    let z = c.in-Some.ensures.steps in
    let vars = c.loop-pattern.variables in
    let it = c.loop-pattern.pattern-iterator in
    let p = c.in-Some.pattern.now in
    let l = subst (λ ps. AreLeft s all ps it.b.rest.now vs env vars) z.0 (c.loop-pattern.invariant.left env vs h a) in
    left_fails s all c.next.new.self.a.rest.now p c.next.new.self.b.rest.now c.in-Some.value.now vs env vars c.matches.new.variables (subst (λ ws. AreLeft s all (p ∷ c.next.new.self.a.rest.now) ws vs env vars) z.1 l)
    (λ env v h a. subst (λ (b : Bool). Matches (matching (pattern p) v) env s c.matches.new.variables b) c.if-not-branch.true (c.in_ok-matches.ensures.matches env v h a))

pub all_match-loop-pattern-preserved : goal.all_match-loop-pattern-preserved
all_match-loop-pattern-preserved t c =
    let s = c.args.store.now in
    let all = c.args.patterns.now in
    let z = c.in-Some.ensures.steps in
    let vars = c.loop-pattern.variables in
    let it = c.loop-pattern.pattern-iterator in
    let p = c.in-Some.pattern.now in
    let inv = c.loop-pattern.invariant in
    let one = c.in_ok-matches.ensures in
    record {
      keeps = λ i v h. one.keeps i v (inv.keeps i v h);
      longer = (let x = inv.longer in let y = one.longer in omega (arith, x, y));
      left = λ env vs h a.
          let l = subst (λ ps. AreLeft s all ps it.b.rest.now vs env vars) z.0 (inv.left env vs h a) in
          left_matched s all c.next.new.self.a.rest.now p c.next.new.self.b.rest.now c.in-Some.value.now vs env vars c.matches.new.variables (subst (λ ws. AreLeft s all (p ∷ c.next.new.self.a.rest.now) ws vs env vars) z.1 l)
          (λ env v h a. subst (λ (b : Bool). Matches (matching (pattern p) v) env s c.matches.new.variables b) c.if-not-branch.false (one.matches env v h a));
    }

pub all_match-returns-clause-matches : goal.all_match-returns-clause-matches
all_match-returns-clause-matches t c = λ env vs h a.
    let it = c.loop-pattern.pattern-iterator in
    left_none c.args.store.now c.args.patterns.now it.a.rest.now it.b.rest.now vs env c.loop-pattern.variables (c.loop-pattern.invariant.left env vs h a) (sides it.a it.b c.in-None.ensures.steps)
