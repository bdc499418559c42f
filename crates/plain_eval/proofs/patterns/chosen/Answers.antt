use Rattle.std.proofs.Common.{refl, sym, ap, ◌∙◌, ◌≡◌, ◌∷◌, ◌+◌, subst, Some, None, arith, drop}
use Rattle.std.proofs.lemmas.List.{drop_more, drop_all}
use Rattle.fip_trees.specs.TreeView.{clause, clauses}
use Rattle.instance_semantics.specs.Matching.{matching}
use Rattle.plain_eval.specs.Choosing.{Tries, Chooses}
use Rattle.plain_eval.specs.Work.{block_size, clauses_size}
use Rattle.plain_eval.proofs.Choosing.{tried_some, tried_none}
use Rattle.plain_eval.proofs.patterns.chosen.Goals as goal

pub returns-in-Some-clause-chooses : goal.returns-in-Some-clause-chooses
returns-in-Some-clause-chooses c = λ env v h a.
    let s = c.args.store.now in
    let k = clause c.args.first.now in
    tried_some k.pattern k.body (clauses c.args.others.now) env v s c.tried.new.variables _ (subst (λ o. Tries (matching k.pattern v) k.body env s c.tried.new.variables o) c.in-Some.is (c.in_ok-block.ensures.tries env v h a))

pub loop-clause-init : goal.loop-clause-init
loop-clause-init c =
    let s = c.args.store.now in
    let k = clause c.args.first.now in
    let one = c.in_ok-block.ensures in
    record {
      keeps = one.keeps;
      longer = one.longer;
      size = omega arith;
      left = λ env v h a. tried_none k.pattern k.body (clauses c.args.others.now) env v s c.tried.new.variables (subst (λ o. Tries (matching k.pattern v) k.body env s c.tried.new.variables o) c.in-None.is (one.tries env v h a));
    }

pub returns-in-Some-2-clause-chooses : goal.returns-in-Some-2-clause-chooses
returns-in-Some-2-clause-chooses c = λ env v h a.
    let s = c.args.store.now in
    let i = c.loop-clause.clause-index in
    let others = c.args.others.now in
    let item = c.clause-item.result in
    let drops : drop i others ≡ item ∷ drop (i + 1) others = drop_more others i item c.loop-clause-test.true ∙ ap (λ x. x ∷ drop (i + 1) others) (sym c.clause-item.is) in
    let k = clause item in
    let n = c.loop-clause.invariant.left env v h a in
    let vars = c.tried-in-loop-clause.new.variables in
    let b = c.in-Some-2.block in
    n.1 vars (Some b) (subst (λ l. Chooses (clauses l) v env s vars (Some b)) (sym drops) (tried_some k.pattern k.body (clauses (drop (i + 1) others)) env v s vars b (subst (λ o. Tries (matching k.pattern v) k.body env s vars o) c.in-Some-2.is (c.in_ok-block-2.ensures.tries env v n.0 a))))

pub loop-clause-preserved : goal.loop-clause-preserved
loop-clause-preserved c =
    let s = c.args.store.now in
    let i = c.loop-clause.clause-index in
    let others = c.args.others.now in
    let item = c.clause-item.result in
    let drops : drop i others ≡ item ∷ drop (i + 1) others = drop_more others i item c.loop-clause-test.true ∙ ap (λ x. x ∷ drop (i + 1) others) (sym c.clause-item.is) in
    let k = clause item in
    let inv = c.loop-clause.invariant in
    let one = c.in_ok-block-2.ensures in
    let vars = c.tried-in-loop-clause.new.variables in
    record {
      keeps = λ j v h. one.keeps j v (inv.keeps j v h);
      longer = (let x = inv.longer in let y = one.longer in omega (arith, x, y));
      size = (let x = inv.size in let y : clauses_size (clauses (drop i others)) ≡ block_size k.body + clauses_size (clauses (drop (i + 1) others)) = ap (λ l. clauses_size (clauses l)) drops in omega (arith, x, y));
      left = λ env v h a.
          let n = inv.left env v h a in
          let m = tried_none k.pattern k.body (clauses (drop (i + 1) others)) env v s vars (subst (λ o. Tries (matching k.pattern v) k.body env s vars o) c.in-None-2.is (one.tries env v n.0 a)) in
          (m.0, λ vars' o l. n.1 vars' o (subst (λ l. Chooses (clauses l) v env s vars' o) (sym drops) (m.1 vars' o l)));
    }

pub returns-clause-chooses : goal.returns-clause-chooses
returns-clause-chooses c = λ env v h a.
    let s = c.args.store.now in
    let k = c.loop-clause.invariant.left env v h a in
    k.1 c.loop-clause.variables None (subst (λ l. Chooses (clauses l) v env s c.loop-clause.variables None) (sym (drop_all c.loop-clause.clause-index c.args.others.now c.loop-clause-test.false)) refl)
