use Rattle.std.proofs.Common.{rules, refl, ◌≡◌, ◌<◌, ◌+◌, ◌∙◌, Err, ap, sym, subst, drop, map, arith, ℕ, List}
use Rattle.std.proofs.lemmas.Result.{on_ok_weaker, err_from_is_err_and}
use Rattle.fip_trees.specs.TreeView.{BoundPart, arguments, expression, binding, block, block_of, clause, clauses}
use Rattle.fip_trees.specs.declared.program.Block.{out-Block}
use Rattle.fip_trees.specs.declared.program.Binding.{Binding, out-Binding}
use Rattle.fip_trees.specs.declared.program.Clause.{Clause}
use Rattle.credit_check.proofs.Steps.{drop_item}
use Rattle.derivation_trees.specs.Building.{built}
use Rattle.derivation_trees.specs.Trees.{Tree, Trees, MoreTrees}
use Rattle.derivation_trees.specs.declared.derivation.RuleName.TheVariants as R
use Rattle.derivation_walk.specs.Growing.{grown, grown_all, closed_times, Awaits}
use Rattle.derivation_walk.specs.Costs.{cost_of, cost, cost_all, total}
use Rattle.derivation_walk.specs.Guides.{guided, holding, asking}
use Rattle.derivation_walk.specs.Walked.{Owned, Asked, those, used, node, match_rule, begun, values, walked, walked_parts, walked_clause, walked_clauses, size_parts, size_clauses}
use Rattle.derivation_walk.proofs.WalkSteps.{bound_is, none_left, block_first, block_more, block_done, clause_more, match_is, match_grown, let_opened, expression_tuple}
use Rattle.derivation_walk.proofs.Short.{too_long, closed_kept, first_short, later_short, rest_short, binding_short, bound_short, clause_short, clauses_short}
use Rattle.derivation_walk.proofs.make.Guide.+block.Goals as goal

pub binding-returns-clause-awaits : goal.binding-returns-clause-awaits
binding-returns-clause-awaits t c =
    let g = guided c.args.self.now in
    let i = c.args.walk.now.next in
    let b1 = built c.open_asked.new.walk.nodes in
    let o = holding c.args.there in
    let a = asking c.args.asked.now in
    let b = asking c.args.bound.now in
    let d = c.args.binding.now in
    let xs = c.in_ok-variables.variables.items in
    let ys = c.in_ok-used.used.items in
    let Y : Owned = record { variables = ys; credits = b.need } in
    let_opened g c.in_ok-nodes.nodes i (built c.args.walk.now.nodes) b1 (built c.expression.new.walk.nodes) o a b (binding d).bound xs ys
    (c.in_ok-variables.ensures ∙ ap (those g a) c.deref.ensures.value) (c.in_ok-used.ensures ∙ ap (used g b) c.deref-2.ensures.value) c.in_ok-nodes.ensures.awaits
    (c.in_ok-expression.ensures.grows ∙ ap (λ j. grown b1 (walked g j Y (expression (out-Binding d).bound))) c.in_ok-nodes.ensures.next ∙ ap (λ e. grown b1 (walked g i Y e)) (bound_is d))

pub clauses-loop-next-preserved : goal.clauses-loop-next-preserved
clauses-loop-next-preserved t c =
    let g = guided c.args.self.now in
    let b = built c.loop-next.walk.nodes in
    let i = c.loop-next.walk.next in
    let o : Owned = record { variables = c.args.variables.now; credits = c.args.credits.now } in
    let d = clause c.next-item.result in
    let later = clauses (drop (c.loop-next.next-index + 1) c.args.clauses.now) in
    let D = drop_item c.args.clauses.now c.loop-next.next-index c.next-item.result c.loop-next-test.true c.next-item.is in
    let s = ap (λ xs. size_clauses (clauses xs)) D in
    let h = c.in_ok-clause.ensures.next in
    let k = c.loop-next.invariant.next in
    record {
      grows = clause_more g b (built c.clause.new.walk.nodes) (grown_all (built c.args.walk.now.nodes) (walked_clauses g c.args.walk.now.next c.args.is_taken c.args.binder o (clauses c.args.clauses.now))) i c.clause.new.walk.next c.args.is_taken c.args.binder o d later c.in_ok-clause.ensures.grows h
          (sym (ap (λ xs. grown_all b (walked_clauses g i c.args.is_taken c.args.binder o (clauses xs))) D) ∙ c.loop-next.invariant.grows);
      next = omega (arith, h, s, k);
      kept = c.in_ok-clause.ensures.kept ∙ c.loop-next.invariant.kept;
    }

pub expression-returns-in-Tuple-clause-grows : goal.expression-returns-in-Tuple-clause-grows
expression-returns-in-Tuple-clause-grows t c =
    let g = guided c.args.self.now in
    let b0 = built c.args.walk.now.nodes in
    let i = c.args.walk.now.next in
    let o = holding c.args.owned in
    on_ok_weaker c.tuple.result
    (λ (u : built c.tuple.new.walk.nodes ≡ grown b0 (begun g i R.Tuple o (values g (arguments c.deref.result.now)))).
    u ∙ ap (λ as'. grown b0 (begun g i R.Tuple o (values g (arguments as')))) c.deref.ensures.value
    ∙ sym (ap (λ z. grown b0 (walked g i o z)) (ap expression c.in-Tuple.is ∙ expression_tuple c.in-Tuple.place c.in-Tuple.arguments)))
    c.tuple.ensures.grows

pub expression-returns-in_ok-clauses-in-Match-clause-grows : goal.expression-returns-in_ok-clauses-in-Match-clause-grows
expression-returns-in_ok-clauses-in-Match-clause-grows t c =
    let g = guided c.args.self.now in
    let n = c.in_ok-opened-in-Match.opened in
    let b0 = built c.args.walk.now.nodes in
    let b1 = built c.open_asked.new.walk.nodes in
    let b2 = built c.clause.new.walk.nodes in
    let i = c.args.walk.now.next in
    let j = c.open_asked.new.walk.next in
    let k = c.clause.new.walk.next in
    let taken = c.takes-is_taken.result in
    let x = c.binder_of-binder.result in
    let o = holding c.args.owned in
    let q = asking c.in_ok-asked-in-Match.asked in
    let xs = c.in_ok-variables-in-Match.variables.items in
    let has = c.in_ok-has-in-Match.has.items in
    let S : List ℕ → Owned = λ ys. record { variables = ys; credits = q.need } in
    let first = c.in-Match.first.value in
    match_grown g n b0 b1 b2 (built c.clauses.new.walk.nodes) (built c.close.new.walk.nodes) i j k c.args.expression.now c.in-Match.kind c.in-Match.ty c.in-Match.place c.in-Match.scrutinee c.in-Match.first c.in-Match.others taken x o xs has q
    c.in-Match.is c.takes-is_taken.ensures.taken c.binder_of-binder.ensures c.in_ok-asked-in-Match.ensures.asked
    (c.in_ok-variables-in-Match.ensures ∙ ap (those g q) c.deref-in-Match.ensures.value)
    (c.in_ok-has-in-Match.ensures.items ∙ c.deref-in-Match-2.ensures.value)
    (c.in_ok-opened-in-Match.ensures.next ∙ c.in_ok-asked-in-Match.ensures.next)
    (subst (λ r. Awaits n b0 b1 (node r o has q.need)) c.match_rule.ensures (subst (λ z. Awaits n (built z) b1 (node c.match_rule.result o has q.need)) c.in_ok-asked-in-Match.ensures.same c.in_ok-opened-in-Match.ensures.awaits))
    (c.in_ok-clause-in-Match.ensures.grows ∙ ap (λ ys. grown b1 (walked_clause g j taken x (S ys) (clause c.deref-in-Match-4.result.now))) c.deref-in-Match-3.ensures.value
    ∙ ap (λ (d : Clause). grown b1 (walked_clause g j taken x (S xs) (clause d))) c.deref-in-Match-4.ensures)
    (c.in_ok-clause-in-Match.ensures.next ∙ ap (λ (d : Clause). j + (size_parts (clause d).body + 1)) c.deref-in-Match-4.ensures)
    (c.in_ok-clauses-in-Match.ensures.grows ∙ ap (λ ys. grown_all b2 (walked_clauses g k taken x (S ys) (clauses c.deref-in-Match-6.result.now))) c.deref-in-Match-5.ensures.value
    ∙ ap (λ ds. grown_all b2 (walked_clauses g k taken x (S xs) (clauses ds))) c.deref-in-Match-6.ensures.value)
    c.close.ensures.closed

pub parts-loop-binding-init : goal.parts-loop-binding-init
parts-loop-binding-init t c =
    let g = guided c.args.self.now in
    let b0 = built c.args.walk.now.nodes in
    let i = c.args.walk.now.next in
    let o : Owned = record { variables = c.args.variables.items; credits = c.args.credits } in
    let e = block_first c.args.block.now c.deref-binding-items.result.now c.deref-binding-items.ensures.value in
    record {
      grows = ap (λ d. grown b0 (walked_parts g i o (asking c.args.asked) d)) (sym e);
      next = ap (λ d. i + size_parts d) (sym e);
      kept = refl;
      few = omega arith;
    }

pub parts-loop-binding-preserved : goal.parts-loop-binding-preserved
parts-loop-binding-preserved t c =
    let g = guided c.args.self.now in
    let m = c.loop-binding.opened in
    let n = c.in_ok-nodes.nodes in
    let k = m + n in
    let b = built c.loop-binding.walk.nodes in
    let i = c.loop-binding.walk.next in
    let items = c.deref-binding-items.result.now in
    let last = expression (out-Block c.args.block.now).last in
    let o : Owned = record { variables = c.loop-binding.numbers.items; credits = c.loop-binding.sizes } in
    let o1 : Owned = record { variables = c.in_ok-nodes.left.variables.items; credits = c.in_ok-nodes.left.credits } in
    let a : Asked = record { first = c.loop-binding.first; end = c.args.asked.end; need = c.loop-binding.need } in
    let a1 : Asked = record { first = c.asked_by-bound.result.end; end = c.args.asked.end; need = c.in_ok-nodes.left.credits } in
    let e = asking c.asked_by-bound.result in
    let later = map binding (drop (c.loop-binding.binding-index + 1) items) in
    let D = drop_item items c.loop-binding.binding-index c.binding-item.result c.loop-binding-test.true c.binding-item.is in
    let s = ap (λ xs. size_parts (block_of (map binding xs) last)) D in
    let hj = c.in_ok-nodes.ensures.next in
    let ho = c.in_ok-nodes.ensures.rest in
    let hk : k ≡ m + n = refl in
    let few = c.in_ok-nodes.ensures.few in
    let before = c.loop-binding.invariant.few in
    let v = c.loop-binding.invariant.next in
    record {
      grows = block_more g m n k b (built c.binding.new.walk.nodes) (grown (built c.args.walk.now.nodes) (walked_parts g c.args.walk.now.next record { variables = c.args.variables.items; credits = c.args.credits } (asking c.args.asked) (block c.args.block.now))) i c.binding.new.walk.next o o1 a a1 e (binding c.binding-item.result) later last
          c.in_ok-nodes.ensures.awaits c.asked_by-bound.ensures ho (ap (λ (z : Owned). record { first = c.asked_by-bound.result.end; end = c.args.asked.end; need = z.credits }) ho) hj hk
          (sym (ap (λ xs. closed_times m (grown b (walked_parts g i o a (block_of (map binding xs) last)))) D) ∙ c.loop-binding.invariant.grows);
      next = omega (arith, hj, s, v);
      kept = c.in_ok-nodes.ensures.kept ∙ c.loop-binding.invariant.kept;
      few = omega (arith, few, before);
    }

pub parts-returns-clause-grows : goal.parts-returns-clause-grows
parts-returns-clause-grows t c =
    let g = guided c.args.self.now in
    let items = c.deref-binding-items.result.now in
    let last = expression (out-Block c.args.block.now).last in
    let o : Owned = record { variables = c.loop-binding.numbers.items; credits = c.loop-binding.sizes } in
    let a : Asked = record { first = c.loop-binding.first; end = c.args.asked.end; need = c.loop-binding.need } in
    block_done g c.loop-binding.opened (built c.loop-binding.walk.nodes) (built c.expression.new.walk.nodes) (built c.close.new.walk.nodes) (grown (built c.args.walk.now.nodes) (walked_parts g c.args.walk.now.next record { variables = c.args.variables.items; credits = c.args.credits } (asking c.args.asked) (block c.args.block.now))) c.loop-binding.walk.next o a (map binding (drop c.loop-binding.binding-index items)) last
    (none_left items c.loop-binding.binding-index c.loop-binding-test.false) c.in_ok-expression.ensures.grows c.close.ensures.closed c.loop-binding.invariant.grows

pub parts-returns-clause-next : goal.parts-returns-clause-next
parts-returns-clause-next t c =
    let items = c.deref-binding-items.result.now in
    let last = expression (out-Block c.args.block.now).last in
    let s = ap (λ ys. size_parts (block_of ys last)) (none_left items c.loop-binding.binding-index c.loop-binding-test.false) in
    let a = c.close.ensures.next in
    let b = c.in_ok-expression.ensures.next in
    let v = c.loop-binding.invariant.next in
    omega (arith, s, a, b, v)

pub binding-returns-in_err-expression-clause-short : goal.binding-returns-in_err-expression-clause-short
binding-returns-in_err-expression-clause-short t c =
    let g = guided c.args.self.now in
    let i = c.args.walk.now.next in
    let b1 = built c.open_asked.new.walk.nodes in
    let o = holding c.args.there in
    let a = asking c.args.asked.now in
    let b = asking c.args.bound.now in
    let d = c.args.binding.now in
    let m = c.open_asked.new.walk.room in
    let xs = c.in_ok-variables.variables.items in
    let ys = c.in_ok-used.used.items in
    let Y : Owned = record { variables = ys; credits = b.need } in
    let p = err_from_is_err_and c.from_residual-in_err-expression.result c.from_residual-in_err-expression.ensures.1 in
    λ k u.
    bound_short g c.args.walk.now.room m c.in_ok-nodes.nodes i (built c.args.walk.now.nodes) b1 o a b (binding d).bound xs ys u
    (c.in_ok-variables.ensures ∙ ap (those g a) c.deref.ensures.value) (c.in_ok-used.ensures ∙ ap (used g b) c.deref-2.ensures.value) c.in_ok-nodes.ensures.awaits c.in_ok-nodes.ensures.kept
    (subst (λ e. m < cost (walked g i Y e)) (bound_is d) (subst (λ j. m < cost (walked g j Y (expression (out-Binding d).bound))) c.in_ok-nodes.ensures.next
    (c.in_err-expression.ensures.short (ap Err (too_long c.from_residual-in_err-expression.result p.0 c.in_err-expression.field-0.0 p.1 p.2 k)))))

pub clauses-returns-in_err-clause-clause-short : goal.clauses-returns-in_err-clause-clause-short
clauses-returns-in_err-clause-clause-short t c =
    let g = guided c.args.self.now in
    let items = c.args.clauses.now in
    let n = c.loop-next.next-index in
    let i = c.loop-next.walk.next in
    let m = c.loop-next.walk.room in
    let o : Owned = record { variables = c.args.variables.now; credits = c.args.credits.now } in
    let d = clause c.next-item.result in
    let D = drop_item items n c.next-item.result c.loop-next-test.true c.next-item.is in
    let W = λ (i : ℕ) (xs : List Clause). walked_clauses g i c.args.is_taken c.args.binder o (clauses xs) in
    let p = err_from_is_err_and c.from_residual.result c.from_residual.ensures.1 in
    λ k.
    later_short c.args.walk.now.room m (built c.args.walk.now.nodes) (built c.loop-next.walk.nodes) (W i (drop n items)) (W c.args.walk.now.next items) c.loop-next.invariant.grows c.loop-next.invariant.kept
    (subst (λ (xs : List Clause). m < cost_all (W i xs)) (sym D)
    (first_short (walked_clause g i c.args.is_taken c.args.binder o d) (walked_clauses g (i + (size_parts d.body + 1)) c.args.is_taken c.args.binder o (clauses (drop (n + 1) items))) m
    (c.in_err-clause.ensures.short (ap Err (too_long c.from_residual.result p.0 c.in_err-clause.field-0.0 p.1 p.2 k)))))

pub expression-returns-in_err-opened-in-Match-clause-short : goal.expression-returns-in_err-opened-in-Match-clause-short
expression-returns-in_err-opened-in-Match-clause-short t c =
    let g = guided c.args.self.now in
    let b0 = built c.args.walk.now.nodes in
    let i = c.args.walk.now.next in
    let j = i + 1 in
    let k = j + (size_parts (clause c.in-Match.first.value).body + 1) in
    let taken = c.takes-is_taken.result in
    let x = c.binder_of-binder.result in
    let o = holding c.args.owned in
    let q = asking c.in_ok-asked-in-Match.asked in
    let xs = c.in_ok-variables-in-Match.variables.items in
    let has = c.in_ok-has-in-Match.has.items in
    let S : List ℕ → Owned = λ ys. record { variables = ys; credits = q.need } in
    let C = walked_clause g j taken x (S xs) (clause c.in-Match.first.value) in
    let Cs = walked_clauses g k taken x (S xs) (clauses c.in-Match.others.items) in
    let w = walked g i o (expression c.args.expression.now) in
    let f : Trees → Tree = node (match_rule taken) o has q.need in
    let is : f (MoreTrees C Cs) ≡ w =
    match_is g i j k c.args.expression.now c.in-Match.kind c.in-Match.ty c.in-Match.place c.in-Match.scrutinee c.in-Match.first c.in-Match.others taken x o xs has q
    c.in-Match.is c.takes-is_taken.ensures.taken c.binder_of-binder.ensures c.in_ok-asked-in-Match.ensures.asked
    (c.in_ok-variables-in-Match.ensures ∙ ap (those g q) c.deref-in-Match.ensures.value)
    (c.in_ok-has-in-Match.ensures.items ∙ c.deref-in-Match-2.ensures.value)
    (refl) refl in
    let p = err_from_is_err_and c.from_residual-in_err-opened-in-Match.result c.from_residual-in_err-opened-in-Match.ensures.1 in
    λ k.
    let l = c.in_err-opened-in-Match.ensures.short (ap Err (too_long c.from_residual-in_err-opened-in-Match.result p.0 c.in_err-opened-in-Match.field-0.0 p.1 p.2 k)) (MoreTrees C Cs) in
    subst (λ z. c.args.walk.now.room < cost z) is
    (subst (λ n. n < cost (f (MoreTrees C Cs))) c.in_ok-asked-in-Match.ensures.room
    (subst (λ r. c.enter.new.walk.room < cost (node r o has q.need (MoreTrees C Cs))) c.match_rule.ensures l))

pub expression-returns-in_err-clause-in-Match-clause-short : goal.expression-returns-in_err-clause-in-Match-clause-short
expression-returns-in_err-clause-in-Match-clause-short t c =
    let g = guided c.args.self.now in
    let b0 = built c.args.walk.now.nodes in
    let b1 = built c.open_asked.new.walk.nodes in
    let i = c.args.walk.now.next in
    let j = c.open_asked.new.walk.next in
    let k = j + (size_parts (clause c.in-Match.first.value).body + 1) in
    let taken = c.takes-is_taken.result in
    let x = c.binder_of-binder.result in
    let o = holding c.args.owned in
    let q = asking c.in_ok-asked-in-Match.asked in
    let xs = c.in_ok-variables-in-Match.variables.items in
    let has = c.in_ok-has-in-Match.has.items in
    let S : List ℕ → Owned = λ ys. record { variables = ys; credits = q.need } in
    let C = walked_clause g j taken x (S xs) (clause c.in-Match.first.value) in
    let Cs = walked_clauses g k taken x (S xs) (clauses c.in-Match.others.items) in
    let w = walked g i o (expression c.args.expression.now) in
    let f : Trees → Tree = node (match_rule taken) o has q.need in
    let is : f (MoreTrees C Cs) ≡ w =
    match_is g i j k c.args.expression.now c.in-Match.kind c.in-Match.ty c.in-Match.place c.in-Match.scrutinee c.in-Match.first c.in-Match.others taken x o xs has q
    c.in-Match.is c.takes-is_taken.ensures.taken c.binder_of-binder.ensures c.in_ok-asked-in-Match.ensures.asked
    (c.in_ok-variables-in-Match.ensures ∙ ap (those g q) c.deref-in-Match.ensures.value)
    (c.in_ok-has-in-Match.ensures.items ∙ c.deref-in-Match-2.ensures.value)
    (c.in_ok-opened-in-Match.ensures.next ∙ c.in_ok-asked-in-Match.ensures.next) refl in
    let aw : Awaits c.in_ok-opened-in-Match.opened b0 b1 f = subst (λ r. Awaits c.in_ok-opened-in-Match.opened b0 b1 (node r o has q.need)) c.match_rule.ensures (subst (λ z. Awaits c.in_ok-opened-in-Match.opened (built z) b1 (node c.match_rule.result o has q.need)) c.in_ok-asked-in-Match.ensures.same c.in_ok-opened-in-Match.ensures.awaits) in
    let a = c.in_ok-asked-in-Match.ensures.room in
    let b : cost_of (built c.enter.new.walk.nodes).nodes ≡ cost_of b0.nodes = ap (λ z. cost_of (built z).nodes) c.in_ok-asked-in-Match.ensures.same in
    let d = c.in_ok-opened-in-Match.ensures.kept in
    let kept : c.open_asked.new.walk.room + cost_of b1.nodes ≡ c.args.walk.now.room + cost_of b0.nodes = omega (arith, a, b, d) in
    let m = c.open_asked.new.walk.room in
    let p = err_from_is_err_and c.from_residual-in_err-clause-in-Match.result c.from_residual-in_err-clause-in-Match.ensures.1 in
    λ k.
    clause_short c.args.walk.now.room m c.in_ok-opened-in-Match.opened b0 b1 f C Cs w aw is kept
    (subst (λ (z : Clause). m < cost (walked_clause g j taken x (S xs) (clause z))) c.deref-in-Match-4.ensures
    (subst (λ ys. m < cost (walked_clause g j taken x (S ys) (clause c.deref-in-Match-4.result.now))) c.deref-in-Match-3.ensures.value
    (c.in_err-clause-in-Match.ensures.short (ap Err (too_long c.from_residual-in_err-clause-in-Match.result p.0 c.in_err-clause-in-Match.field-0.0 p.1 p.2 k)))))

pub expression-returns-in_err-clauses-in-Match-clause-short : goal.expression-returns-in_err-clauses-in-Match-clause-short
expression-returns-in_err-clauses-in-Match-clause-short t c =
    let g = guided c.args.self.now in
    let b0 = built c.args.walk.now.nodes in
    let b1 = built c.open_asked.new.walk.nodes in
    let i = c.args.walk.now.next in
    let j = c.open_asked.new.walk.next in
    let k = j + (size_parts (clause c.in-Match.first.value).body + 1) in
    let taken = c.takes-is_taken.result in
    let x = c.binder_of-binder.result in
    let o = holding c.args.owned in
    let q = asking c.in_ok-asked-in-Match.asked in
    let xs = c.in_ok-variables-in-Match.variables.items in
    let has = c.in_ok-has-in-Match.has.items in
    let S : List ℕ → Owned = λ ys. record { variables = ys; credits = q.need } in
    let C = walked_clause g j taken x (S xs) (clause c.in-Match.first.value) in
    let Cs = walked_clauses g k taken x (S xs) (clauses c.in-Match.others.items) in
    let w = walked g i o (expression c.args.expression.now) in
    let f : Trees → Tree = node (match_rule taken) o has q.need in
    let is : f (MoreTrees C Cs) ≡ w =
    match_is g i j k c.args.expression.now c.in-Match.kind c.in-Match.ty c.in-Match.place c.in-Match.scrutinee c.in-Match.first c.in-Match.others taken x o xs has q
    c.in-Match.is c.takes-is_taken.ensures.taken c.binder_of-binder.ensures c.in_ok-asked-in-Match.ensures.asked
    (c.in_ok-variables-in-Match.ensures ∙ ap (those g q) c.deref-in-Match.ensures.value)
    (c.in_ok-has-in-Match.ensures.items ∙ c.deref-in-Match-2.ensures.value)
    (c.in_ok-opened-in-Match.ensures.next ∙ c.in_ok-asked-in-Match.ensures.next) refl in
    let aw : Awaits c.in_ok-opened-in-Match.opened b0 b1 f = subst (λ r. Awaits c.in_ok-opened-in-Match.opened b0 b1 (node r o has q.need)) c.match_rule.ensures (subst (λ z. Awaits c.in_ok-opened-in-Match.opened (built z) b1 (node c.match_rule.result o has q.need)) c.in_ok-asked-in-Match.ensures.same c.in_ok-opened-in-Match.ensures.awaits) in
    let a = c.in_ok-asked-in-Match.ensures.room in
    let b : cost_of (built c.enter.new.walk.nodes).nodes ≡ cost_of b0.nodes = ap (λ z. cost_of (built z).nodes) c.in_ok-asked-in-Match.ensures.same in
    let d = c.in_ok-opened-in-Match.ensures.kept in
    let kept : c.open_asked.new.walk.room + cost_of b1.nodes ≡ c.args.walk.now.room + cost_of b0.nodes = omega (arith, a, b, d) in
    let m = c.clause.new.walk.room in
    let e : c.clause.new.walk.next ≡ k = c.in_ok-clause-in-Match.ensures.next ∙ ap (λ (d : Clause). j + (size_parts (clause d).body + 1)) c.deref-in-Match-4.ensures in
    let grows : built c.clause.new.walk.nodes ≡ grown b1 C =
    c.in_ok-clause-in-Match.ensures.grows ∙ ap (λ ys. grown b1 (walked_clause g j taken x (S ys) (clause c.deref-in-Match-4.result.now))) c.deref-in-Match-3.ensures.value
    ∙ ap (λ (d : Clause). grown b1 (walked_clause g j taken x (S xs) (clause d))) c.deref-in-Match-4.ensures in
    let p = err_from_is_err_and c.from_residual-in_err-clauses-in-Match.result c.from_residual-in_err-clauses-in-Match.ensures.1 in
    λ k'.
    clauses_short c.args.walk.now.room c.open_asked.new.walk.room m c.in_ok-opened-in-Match.opened b0 b1 (built c.clause.new.walk.nodes) f C Cs w aw is kept grows c.in_ok-clause-in-Match.ensures.kept
    (subst (λ n. m < cost_all (walked_clauses g n taken x (S xs) (clauses c.in-Match.others.items))) e
    (subst (λ (ds : List Clause). m < cost_all (walked_clauses g c.clause.new.walk.next taken x (S xs) (clauses ds))) c.deref-in-Match-6.ensures.value
    (subst (λ ys. m < cost_all (walked_clauses g c.clause.new.walk.next taken x (S ys) (clauses c.deref-in-Match-6.result.now))) c.deref-in-Match-5.ensures.value
    (c.in_err-clauses-in-Match.ensures.short (ap Err (too_long c.from_residual-in_err-clauses-in-Match.result p.0 c.in_err-clauses-in-Match.field-0.0 p.1 p.2 k'))))))

pub expression-returns-in-Tuple-clause-short : goal.expression-returns-in-Tuple-clause-short
expression-returns-in-Tuple-clause-short t c =
    let g = guided c.args.self.now in
    let i = c.args.walk.now.next in
    let o = holding c.args.owned in
    let e : begun g i R.Tuple o (values g (arguments c.deref.result.now)) ≡ walked g i o (expression c.args.expression.now) =
    ap (λ as'. begun g i R.Tuple o (values g (arguments as'))) c.deref.ensures.value
    ∙ sym (ap (λ z. walked g i o z) (ap expression c.in-Tuple.is ∙ expression_tuple c.in-Tuple.place c.in-Tuple.arguments)) in
    λ k. subst (λ z. c.args.walk.now.room < cost z) e (c.tuple.ensures.short k)

pub expression-returns-in_ok-clauses-in-Match-clause-kept : goal.expression-returns-in_ok-clauses-in-Match-clause-kept
expression-returns-in_ok-clauses-in-Match-clause-kept t c =
    let b : cost_of (built c.enter.new.walk.nodes).nodes ≡ cost_of (built c.args.walk.now.nodes).nodes = ap (λ z. cost_of (built z).nodes) c.in_ok-asked-in-Match.ensures.same in
    let a = c.in_ok-asked-in-Match.ensures.room in
    let d = c.in_ok-opened-in-Match.ensures.kept in
    let kept : total c.open_asked.new.walk ≡ total c.args.walk.now = omega (arith, a, b, d) in
    closed_kept c.in_ok-opened-in-Match.opened c.clauses.new.walk.room c.close.new.walk.room (built c.clauses.new.walk.nodes) (built c.close.new.walk.nodes) c.close.ensures.room c.close.ensures.closed
    ∙ c.in_ok-clauses-in-Match.ensures.kept ∙ c.in_ok-clause-in-Match.ensures.kept ∙ kept

pub parts-returns-in_err-nodes-clause-short : goal.parts-returns-in_err-nodes-clause-short
parts-returns-in_err-nodes-clause-short t c =
    let g = guided c.args.self.now in
    let i = c.loop-binding.walk.next in
    let m = c.loop-binding.walk.room in
    let items = c.deref-binding-items.result.now in
    let n = c.loop-binding.binding-index in
    let last = expression (out-Block c.args.block.now).last in
    let o : Owned = record { variables = c.loop-binding.numbers.items; credits = c.loop-binding.sizes } in
    let o0 : Owned = record { variables = c.args.variables.items; credits = c.args.credits } in
    let a : Asked = record { first = c.loop-binding.first; end = c.args.asked.end; need = c.loop-binding.need } in
    let d = c.binding-item.result in
    let D = drop_item items n d c.loop-binding-test.true c.binding-item.is in
    let W = λ (xs : List Binding). walked_parts g i o a (block_of (map binding xs) last) in
    let p = err_from_is_err_and c.from_residual.result c.from_residual.ensures.1 in
    λ k.
    rest_short c.args.walk.now.room m c.loop-binding.opened (built c.args.walk.now.nodes) (built c.loop-binding.walk.nodes) (W (drop n items)) (walked_parts g c.args.walk.now.next o0 (asking c.args.asked) (block c.args.block.now)) c.loop-binding.invariant.grows c.loop-binding.invariant.kept
    (subst (λ (xs : List Binding). m < cost (W xs)) (sym D)
    (binding_short g i o a (asking c.asked_by-bound.result) (binding d) (map binding (drop (n + 1) items)) last m c.asked_by-bound.ensures
    (c.in_err-nodes.ensures.short (ap Err (too_long c.from_residual.result p.0 c.in_err-nodes.field-0.0 p.1 p.2 k)))))

pub parts-returns-in_err-expression-clause-short : goal.parts-returns-in_err-expression-clause-short
parts-returns-in_err-expression-clause-short t c =
    let g = guided c.args.self.now in
    let i = c.loop-binding.walk.next in
    let m = c.loop-binding.walk.room in
    let items = c.deref-binding-items.result.now in
    let n = c.loop-binding.binding-index in
    let last = expression (out-Block c.args.block.now).last in
    let o : Owned = record { variables = c.loop-binding.numbers.items; credits = c.loop-binding.sizes } in
    let o0 : Owned = record { variables = c.args.variables.items; credits = c.args.credits } in
    let a : Asked = record { first = c.loop-binding.first; end = c.args.asked.end; need = c.loop-binding.need } in
    let p = err_from_is_err_and c.from_residual-in_err-expression.result c.from_residual-in_err-expression.ensures.1 in
    λ k.
    rest_short c.args.walk.now.room m c.loop-binding.opened (built c.args.walk.now.nodes) (built c.loop-binding.walk.nodes) (walked_parts g i o a (block_of (map binding (drop n items)) last)) (walked_parts g c.args.walk.now.next o0 (asking c.args.asked) (block c.args.block.now)) c.loop-binding.invariant.grows c.loop-binding.invariant.kept
    (subst (λ (ds : List BoundPart). m < cost (walked_parts g i o a (block_of ds last))) (sym (none_left items n c.loop-binding-test.false))
    (c.in_err-expression.ensures.short (ap Err (too_long c.from_residual-in_err-expression.result p.0 c.in_err-expression.field-0.0 p.1 p.2 k))))

pub parts-returns-clause-kept : goal.parts-returns-clause-kept
parts-returns-clause-kept t c =
    closed_kept c.loop-binding.opened c.expression.new.walk.room c.close.new.walk.room (built c.expression.new.walk.nodes) (built c.close.new.walk.nodes) c.close.ensures.room c.close.ensures.closed
    ∙ c.in_ok-expression.ensures.kept ∙ c.loop-binding.invariant.kept
