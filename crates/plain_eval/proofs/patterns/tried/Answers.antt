use Rattle.std.proofs.Common.{refl, sym, ap, ◌∙◌, subst, Bool, None}
use Rattle.fip_trees.specs.declared.program.Clause.{out-Clause}
use Rattle.fip_trees.specs.TreeView.{Case, pattern, block}
use Rattle.fip_trees.proofs.TreeViews.{clause_is}
use Rattle.instance_semantics.specs.Matching.{matching}
use Rattle.plain_eval.specs.Slots.{KeepsAll}
use Rattle.plain_eval.specs.Choosing.{Matches, Tries}
use Rattle.plain_eval.proofs.Slots.{back_covers}
use Rattle.plain_eval.proofs.Choosing.{tried_case, not_tried}
use Rattle.plain_eval.proofs.patterns.tried.Goals as goal

pub returns-then-branch-clause-tries : goal.returns-then-branch-clause-tries
returns-then-branch-clause-tries c = λ env v h k.
    let s = c.args.store.now in
    let vars = c.matches.new.variables in
    let o = out-Clause c.args.clause.now in
    tried_case _ (pattern o.pattern) (block o.body) env v s vars _ (clause_is c.args.clause.now) refl (subst (λ (b : Bool). Matches (matching (pattern o.pattern) v) env s vars b) c.if-branch.true (c.in_ok-matches.ensures.matches env v h k))

pub returns-else-branch-clause-tries : goal.returns-else-branch-clause-tries
returns-else-branch-clause-tries c = λ env v h k.
    let s = c.args.store.now in
    let old = c.args.variables.now in
    let vars = c.matches.new.variables in
    let back = c.go_back.new.self in
    let o = out-Clause c.args.clause.now in
    subst (λ (m : Case). Tries (matching m.pattern v) m.body env s back None) (sym (clause_is c.args.clause.now))
    (not_tried (matching (pattern o.pattern) v) (block o.body) env s vars back (subst (λ (b : Bool). Matches (matching (pattern o.pattern) v) env s vars b) c.if-branch.false (c.in_ok-matches.ensures.matches env v h k))
    (back_covers s old.values.items vars.values.items back.values.items old.base old.end back.base back.end env (ap (λ v. v.items) c.go_back.ensures.values) (c.go_back.ensures.base ∙ c.base-base.ensures.same) (c.go_back.ensures.end ∙ c.end-end.ensures.same) c.in_ok-matches.ensures.keeps h))

pub returns-else-branch-clause-keeps : goal.returns-else-branch-clause-keeps
returns-else-branch-clause-keeps c =
    let s = c.args.store.now in
    subst (λ v. KeepsAll s c.args.variables.now.values.items s v.items) (sym c.go_back.ensures.values) c.in_ok-matches.ensures.keeps
