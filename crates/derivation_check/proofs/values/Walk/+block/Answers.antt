use Rattle.std.proofs.Common.{rules, ◌≡◌, ◌+◌, ◌-◌, ◌≤◌, ◌∙◌, refl, sym, ap, subst, take, map, length, arith, ◌<◌, drop, true}
use Rattle.fip_trees.specs.declared.program.Block as B
use Rattle.fip_trees.specs.declared.program.Binding as D
use Rattle.derivation_check.specs.Scopes as S
use Rattle.fip_trees.specs.declared.program.Clause as L
use Rattle.fip_trees.specs.TreeView.{program, block, block_of, binding, clause, pattern, expression, clauses}
use Rattle.fip_trees.proofs.TreeViews.{block_is, clause_is}
use Rattle.fip_rules.specs.World.{world}
use Rattle.derivation_check.specs.Owned.{owned, root, IsOwned}
use Rattle.derivation_check.specs.Places.{at, following}
use Rattle.derivation_check.specs.ScopeView.{frames, scope_of, bindings}
use Rattle.derivation_check.specs.Scopes.{lending, within, AreNumbered}
use Rattle.derivation_check.specs.Calculus.{Derives, DerivesBlock, bound}
use Rattle.derivation_check.proofs.Inside.{own_bound_is}
use Rattle.derivation_check.proofs.Blocks.{block_step, block_end, clauses_step, clause_made, match_whole, let_made, owned_up, block_here, block_over, clauses_here, clauses_short, clauses_long, clauses_match, clause_match, none_match, match_none, match_all, let_under, let_parts, let_body, let_more, numbered_room, clause_back, clause_inner, inside_more}
use Rattle.fip_trees.specs.Tree.{Let}
use Rattle.ownership_calculus.specs.Terms.{Item}
use Rattle.derivation_check.proofs.Numbers.{rising_more}
use Rattle.derivation_check.proofs.values.Walk.+block.Goals.{binding-then-found-ne2-via-then-found-ne2, binding-then-found-ne2-via-else-found-ne2+then-own-eq0, binding-then-found-ne2-via-else-found-ne2+else-own-eq0+then-own-next}
use Rattle.derivation_check.proofs.values.Walk.+block.Goals as goal

pub block-loop-binding-preserved : goal.block-loop-binding-preserved
block-loop-binding-preserved t c = record {
  done = ap (λ k. k + 1) c.loop-binding.invariant.done;
  walked = block_step (world (program c.args.self.now.program.now) c.args.self.now.kind) (scope_of (frames c.args.scope.now)) (scope_of (frames c.in_bindings-before.result)) c.args.core c.args.next c.args.self.now.nodes.now c.args.place c.deref-binding-items.result.now (expression (B.out-Block c.args.block.now).last) c.loop-binding.count c.loop-binding.here c.loop-binding.binding-index c.in-Some.went.count c.in-Some.went.place c.binding-item.result c.loop-binding.invariant.walked c.loop-binding-test.true c.binding-item.is
      (c.in_bindings-before.ensures.scope ∙ ap (λ xs. bindings c.args.next (map binding xs) (scope_of (frames c.args.scope.now))) (ap (λ n. take n c.deref.result.now) c.loop-binding.invariant.done ∙ ap (take c.loop-binding.binding-index) (c.deref.ensures.value ∙ sym c.deref-binding-items.ensures.value)))
      c.in-Some.ensures.count.0 c.in-Some.ensures.count.1 c.in-Some.ensures.numbered.0 c.in-Some.ensures.numbered.1 c.in-Some.ensures.owned c.in-Some.ensures.sound c.in-Some.ensures.down;
}

pub block-returns-in-Some-expression-clause-count : goal.block-returns-in-Some-expression-clause-count
block-returns-in-Some-expression-clause-count t c = (
  (block_end (world (program c.args.self.now.program.now) c.args.self.now.kind) (scope_of (frames c.args.scope.now)) (scope_of (frames c.in_bindings-all.result)) c.args.core c.args.next c.args.self.now.nodes.now c.args.place c.deref-binding-items.result.now (expression (B.out-Block c.args.block.now).last) c.loop-binding.count c.loop-binding.here c.loop-binding.binding-index c.in-Some-expression.more (block c.args.block.now) c.loop-binding.invariant.walked c.loop-binding-test.false
      (c.in_bindings-all.ensures.scope ∙ ap (λ xs. bindings c.args.next (map binding xs) (scope_of (frames c.args.scope.now))) (c.deref-2.ensures.value ∙ sym c.deref-binding-items.ensures.value))
      (block_is c.args.block.now ∙ ap (λ xs. block_of (map binding xs) (expression (B.out-Block c.args.block.now).last)) (sym c.deref-binding-items.ensures.value))
      c.in-Some-expression.ensures.count.0 c.in-Some-expression.ensures.sound).0,
  (let a = c.in-Some-expression.ensures.count.1 in omega arith),
)

pub block-returns-in-Some-expression-clause-sound : goal.block-returns-in-Some-expression-clause-sound
block-returns-in-Some-expression-clause-sound t c = (block_end (world (program c.args.self.now.program.now) c.args.self.now.kind) (scope_of (frames c.args.scope.now)) (scope_of (frames c.in_bindings-all.result)) c.args.core c.args.next c.args.self.now.nodes.now c.args.place c.deref-binding-items.result.now (expression (B.out-Block c.args.block.now).last) c.loop-binding.count c.loop-binding.here c.loop-binding.binding-index c.in-Some-expression.more (block c.args.block.now) c.loop-binding.invariant.walked c.loop-binding-test.false
    (c.in_bindings-all.ensures.scope ∙ ap (λ xs. bindings c.args.next (map binding xs) (scope_of (frames c.args.scope.now))) (c.deref-2.ensures.value ∙ sym c.deref-binding-items.ensures.value))
    (block_is c.args.block.now ∙ ap (λ xs. block_of (map binding xs) (expression (B.out-Block c.args.block.now).last)) (sym c.deref-binding-items.ensures.value))
    c.in-Some-expression.ensures.count.0 c.in-Some-expression.ensures.sound).1

pub binding-returns-else-not-are_numbered-clause-owned : goal.binding-returns-else-not-are_numbered-clause-owned
binding-returns-else-not-are_numbered-clause-owned t c = owned_up (c.args.next + length c.own_binders-binders.result.now) (c.args.next + (c.in-Some-expression.count + length c.own_binders-binders.result.now)) (at c.args.self.now.nodes.now c.following-rest.result) (omega arith) (c.lets.ensures.rest c.if-not-lets.false)

pub binding-returns-else-not-are_numbered-clause-sound : goal.binding-returns-else-not-are_numbered-clause-sound
binding-returns-else-not-are_numbered-clause-sound t c rest h =
    let_made (world (program c.args.self.now.program.now) c.args.self.now.kind) (scope_of (frames c.args.scope.now)) (scope_of (frames c.in_bound-inside.result)) c.args.core c.args.next (at c.args.self.now.nodes.now c.args.place) c.args.self.now.nodes.now c.in-Some.found.node.now c.in-Some.found.first c.following-rest.result c.args.binding.now c.own_binders-binders.result.now (binding c.args.binding.now).bound c.variables_at-used.result.now rest c.in-Some-expression.count
    c.in-Some.ensures.found.0 c.in-Some.ensures.found.2 (let z = c.if-found-ne2.false in omega arith) c.own_binders-binders.ensures.binders refl (let z = c.if-own-eq0.false in omega arith) (c.are_numbered.ensures.sound c.if-not-are_numbered.false) (c.lets.ensures.bound c.if-not-lets.false) (c.lets.ensures.within c.if-not-lets.false) c.following-rest.ensures.tree (c.lets.ensures.rest c.if-not-lets.false) (c.lets.ensures.split c.if-not-lets.false) (c.in_bound-inside.ensures.scope ∙ ap (λ xs. lending xs c.variables_at-used.result.now (scope_of (frames c.args.scope.now))) c.deref.ensures.value) c.variables_at-used.ensures.own
    (c.in-Some-expression.ensures.count.0 ∙ ap within (sym (own_bound_is c.args.binding.now)))
    (subst (Derives (world (program c.args.self.now.program.now) c.args.self.now.kind) (scope_of (frames c.in_bound-inside.result)) c.args.core (c.args.next + length c.own_binders-binders.result.now) (at c.args.self.now.nodes.now c.in-Some.found.first)) (sym (own_bound_is c.args.binding.now)) c.in-Some-expression.ensures.sound) h

pub clause-returns-in-Some-block-clause-sound : goal.clause-returns-in-Some-block-clause-sound
clause-returns-in-Some-block-clause-sound t c =
    clause_made (world (program c.args.self.now.program.now) c.args.self.now.kind) (scope_of (frames c.args.scope.now)) (scope_of (frames c.in_clause-inside.result)) c.args.core c.args.next c.in-Some.count c.args.head.now.taken (owned c.args.head.now.found.node.now.variables.items c.args.head.now.found.node.now.credits.items) (at c.args.self.now.nodes.now c.args.place) c.is_taken-taken.result (clause c.args.clause.now) (pattern (L.out-Clause c.args.clause.now).pattern) (block (L.out-Clause c.args.clause.now).body)
    (clause_is c.args.clause.now) c.in-Some.ensures.count.0 c.in-Some.ensures.numbered (c.is_owned.ensures.sound c.if-not-is_owned.false) (c.goes_on.ensures.sound c.if-not-goes_on.false) c.is_taken-taken.ensures.taken c.in_clause-inside.ensures.scope c.in-Some-block.ensures.sound

pub clauses-loop-clause-preserved : goal.clauses-loop-clause-preserved
clauses-loop-clause-preserved t c =
    clauses_step (world (program c.args.self.now.program.now) c.args.self.now.kind) (scope_of (frames c.args.scope.now)) c.args.core c.args.next c.args.head.now.taken (owned c.args.head.now.found.node.now.variables.items c.args.head.now.found.node.now.credits.items) c.args.self.now.nodes.now c.args.first c.args.all c.args.clauses.now c.loop-clause.count c.loop-clause.place c.loop-clause.left c.loop-clause.clause-index c.in-Some.more c.following-place.result c.clause-item.result c.loop-clause.invariant c.loop-clause-test.true c.clause-item.is (let z = c.if-left-eq0.false in omega arith) (c.following-place.ensures.row (c.loop-clause.left - 1)) c.in-Some.ensures.count.0 c.in-Some.ensures.count.1 c.in-Some.ensures.sound

pub expression-returns-in-Some-clauses-clause-sound : goal.expression-returns-in-Some-clauses-clause-sound
expression-returns-in-Some-clauses-clause-sound t c =
    match_whole (world (program c.args.self.now.program.now) c.args.self.now.kind) (scope_of (frames c.args.scope.now)) c.args.core c.args.next (at c.args.self.now.nodes.now c.args.place) c.args.expression.now c.in-Match.kind c.in-Match.ty c.in-Match.place c.in-Match.scrutinee c.in-Match.first c.in-Match.others c.deref-in-Some.result.now c.deref-in-Some-clause.result.now c.in-Some.head.taken c.in-Some.head.found.node.now.variables.items c.in-Some.head.found.node.now.credits.items c.args.self.now.nodes.now c.in-Some.head.found.first c.following-rest.result c.in-Some.head.found.node.now.parts c.in-Some-clause.one c.takes-takes.result
    c.in-Match.is c.takes-takes.ensures.takes c.in-Some.ensures.taking c.in-Some.ensures.lending c.deref-in-Some.ensures c.deref-in-Some-clause.ensures.value (let z = c.if-all-eq0.false in omega arith) (c.following-rest.ensures.row (c.in-Some.head.found.node.now.parts - 1)) c.in-Some-clause.ensures.count.0 c.in-Some-clause.ensures.sound c.in-Some-clauses.ensures.sound

pub block-returns-in-None-clause-other : goal.block-returns-in-None-clause-other
block-returns-in-None-clause-other t c h = c.in-None.ensures.other (block_of (map binding (drop (c.loop-binding.binding-index + 1) c.deref-binding-items.result.now)) (expression (B.out-Block c.args.block.now).last)) (block_here (world (program c.args.self.now.program.now) c.args.self.now.kind) (scope_of (frames c.args.scope.now)) (scope_of (frames c.in_bindings-before.result)) c.args.core c.args.next c.args.self.now.nodes.now c.args.place c.deref-binding-items.result.now (expression (B.out-Block c.args.block.now).last) c.loop-binding.count c.loop-binding.here c.loop-binding.binding-index c.binding-item.result c.loop-binding.invariant.walked c.loop-binding-test.true c.binding-item.is
    (c.in_bindings-before.ensures.scope ∙ ap (λ xs. bindings c.args.next (map binding xs) (scope_of (frames c.args.scope.now))) (ap (λ n. take n c.deref.result.now) c.loop-binding.invariant.done ∙ ap (take c.loop-binding.binding-index) (c.deref.ensures.value ∙ sym c.deref-binding-items.ensures.value)))
    (subst (DerivesBlock (world (program c.args.self.now.program.now) c.args.self.now.kind) (scope_of (frames c.args.scope.now)) c.args.core c.args.next (at c.args.self.now.nodes.now c.args.place)) (block_is c.args.block.now ∙ ap (λ xs. block_of (map binding xs) (expression (B.out-Block c.args.block.now).last)) (sym c.deref-binding-items.ensures.value)) h))

pub block-returns-in-None-expression-clause-other : goal.block-returns-in-None-expression-clause-other
block-returns-in-None-expression-clause-other t c h = c.in-None-expression.ensures.other (block_over (world (program c.args.self.now.program.now) c.args.self.now.kind) (scope_of (frames c.args.scope.now)) (scope_of (frames c.in_bindings-all.result)) c.args.core c.args.next c.args.self.now.nodes.now c.args.place c.deref-binding-items.result.now (expression (B.out-Block c.args.block.now).last) c.loop-binding.count c.loop-binding.here c.loop-binding.binding-index (block c.args.block.now) c.loop-binding.invariant.walked c.loop-binding-test.false
    (c.in_bindings-all.ensures.scope ∙ ap (λ xs. bindings c.args.next (map binding xs) (scope_of (frames c.args.scope.now))) (c.deref-2.ensures.value ∙ sym c.deref-binding-items.ensures.value))
    (block_is c.args.block.now ∙ ap (λ xs. block_of (map binding xs) (expression (B.out-Block c.args.block.now).last)) (sym c.deref-binding-items.ensures.value)) h)

pub binding-returns-in-None-clause-other : goal.binding-returns-in-None-clause-other
binding-returns-in-None-clause-other t c rest h = let u = let_under (world (program c.args.self.now.program.now) c.args.self.now.kind) (scope_of (frames c.args.scope.now)) c.args.core c.args.next (at c.args.self.now.nodes.now c.args.place) (binding c.args.binding.now).binders (binding c.args.binding.now).bound rest h in c.in-None.ensures.only u.0 u.1 u.2 u.3

pub binding-returns-then-found-ne2-clause-other : goal.binding-returns-then-found-ne2-clause-other
binding-returns-then-found-ne2-clause-other t c rest h =
    let p = let_parts (world (program c.args.self.now.program.now) c.args.self.now.kind) (scope_of (frames c.args.scope.now)) c.args.core c.args.next (at c.args.self.now.nodes.now c.args.place) c.args.self.now.nodes.now c.in-Some.found.node.now c.in-Some.found.first c.own_binders-binders.result.now (binding c.args.binding.now).bound rest c.in-Some.ensures.only (subst (λ bs. DerivesBlock (world (program c.args.self.now.program.now) c.args.self.now.kind) (scope_of (frames c.args.scope.now)) c.args.core c.args.next (at c.args.self.now.nodes.now c.args.place) (Let bs (binding c.args.binding.now).bound rest)) c.own_binders-binders.ensures.binders h) in
    let a = p.two in
    let b = p.some in
    let r = numbered_room (c.args.core + within (binding c.args.binding.now).bound) c.args.next c.own_binders-binders.result.now p.numbered p.some in
    elim c.then-found-ne2.branch [
      | binding-then-found-ne2-via-then-found-ne2 w ↦ (let z = w.if-found-ne2.true in omega arith)
      | binding-then-found-ne2-via-else-found-ne2+then-own-eq0 w ↦ (let z = w.if-own-eq0.true in omega arith)
      | binding-then-found-ne2-via-else-found-ne2+else-own-eq0+then-own-next w ↦ (let z = w.if-own-next.true in omega arith)
    ]

pub binding-returns-then-not-lets-clause-other : goal.binding-returns-then-not-lets-clause-other
binding-returns-then-not-lets-clause-other t c rest h =
    let p = let_parts (world (program c.args.self.now.program.now) c.args.self.now.kind) (scope_of (frames c.args.scope.now)) c.args.core c.args.next (at c.args.self.now.nodes.now c.args.place) c.args.self.now.nodes.now c.in-Some.found.node.now c.in-Some.found.first c.own_binders-binders.result.now (binding c.args.binding.now).bound rest c.in-Some.ensures.only (subst (λ bs. DerivesBlock (world (program c.args.self.now.program.now) c.args.self.now.kind) (scope_of (frames c.args.scope.now)) c.args.core c.args.next (at c.args.self.now.nodes.now c.args.place) (Let bs (binding c.args.binding.now).bound rest)) c.own_binders-binders.ensures.binders h) in
    let g = c.lets.ensures.complete p.bound_owned (subst (IsOwned (c.args.next + length c.own_binders-binders.result.now)) (sym c.following-rest.ensures.tree) p.rest_owned) (subst (λ v. (i : Item) → owned c.in-Some.found.node.now.variables.items c.in-Some.found.node.now.credits.items i + bound (world (program c.args.self.now.program.now) c.args.self.now.kind) c.args.next c.own_binders-binders.result.now i ≡ root (at c.args.self.now.nodes.now c.in-Some.found.first) i + root v i) (sym c.following-rest.ensures.tree) p.split) in
    let u = c.if-not-lets.true in cc

pub binding-returns-in-None-expression-clause-other : goal.binding-returns-in-None-expression-clause-other
binding-returns-in-None-expression-clause-other t c rest h =
    c.in-None-expression.ensures.other (let_body (world (program c.args.self.now.program.now) c.args.self.now.kind) (scope_of (frames c.args.scope.now)) (scope_of (frames c.in_bound-inside.result)) c.args.core c.args.next c.args.self.now.nodes.now c.in-Some.found.node.now c.in-Some.found.first c.own_binders-binders.result.now (binding c.args.binding.now).bound (expression (D.out-Binding c.args.binding.now).bound) c.variables_at-used.result.now rest (let_parts (world (program c.args.self.now.program.now) c.args.self.now.kind) (scope_of (frames c.args.scope.now)) c.args.core c.args.next (at c.args.self.now.nodes.now c.args.place) c.args.self.now.nodes.now c.in-Some.found.node.now c.in-Some.found.first c.own_binders-binders.result.now (binding c.args.binding.now).bound rest c.in-Some.ensures.only (subst (λ bs. DerivesBlock (world (program c.args.self.now.program.now) c.args.self.now.kind) (scope_of (frames c.args.scope.now)) c.args.core c.args.next (at c.args.self.now.nodes.now c.args.place) (Let bs (binding c.args.binding.now).bound rest)) c.own_binders-binders.ensures.binders h)) (c.in_bound-inside.ensures.scope ∙ ap (λ xs. lending xs c.variables_at-used.result.now (scope_of (frames c.args.scope.now))) c.deref.ensures.value) c.variables_at-used.ensures.own (own_bound_is c.args.binding.now))

pub binding-returns-then-not-are_numbered-clause-other : goal.binding-returns-then-not-are_numbered-clause-other
binding-returns-then-not-are_numbered-clause-other t c rest h =
    let p = let_parts (world (program c.args.self.now.program.now) c.args.self.now.kind) (scope_of (frames c.args.scope.now)) c.args.core c.args.next (at c.args.self.now.nodes.now c.args.place) c.args.self.now.nodes.now c.in-Some.found.node.now c.in-Some.found.first c.own_binders-binders.result.now (binding c.args.binding.now).bound rest c.in-Some.ensures.only (subst (λ bs. DerivesBlock (world (program c.args.self.now.program.now) c.args.self.now.kind) (scope_of (frames c.args.scope.now)) c.args.core c.args.next (at c.args.self.now.nodes.now c.args.place) (Let bs (binding c.args.binding.now).bound rest)) c.own_binders-binders.ensures.binders h) in
    let g = c.are_numbered.ensures.complete (subst (λ k. AreNumbered (c.args.core + k) c.args.next c.own_binders-binders.result.now) (sym (c.in-Some-expression.ensures.count.0 ∙ ap within (sym (own_bound_is c.args.binding.now)))) p.numbered) in
    let u = c.if-not-are_numbered.true in cc

pub binding-returns-else-not-are_numbered-clause-down : goal.binding-returns-else-not-are_numbered-clause-down
binding-returns-else-not-are_numbered-clause-down t c rest h =
    subst (λ bs. DerivesBlock (world (program c.args.self.now.program.now) c.args.self.now.kind) (S.binding c.args.next true bs (scope_of (frames c.args.scope.now))) (c.args.core + (c.in-Some-expression.count + length c.own_binders-binders.result.now)) (c.args.next + (c.in-Some-expression.count + length c.own_binders-binders.result.now)) (at c.args.self.now.nodes.now c.following-rest.result) rest) (sym c.own_binders-binders.ensures.binders)
    (let_more (world (program c.args.self.now.program.now) c.args.self.now.kind) (scope_of (frames c.args.scope.now)) c.args.core c.args.next c.args.self.now.nodes.now c.in-Some.found.node.now c.in-Some.found.first c.following-rest.result c.in-Some-expression.count c.own_binders-binders.result.now (binding c.args.binding.now).bound rest (let_parts (world (program c.args.self.now.program.now) c.args.self.now.kind) (scope_of (frames c.args.scope.now)) c.args.core c.args.next (at c.args.self.now.nodes.now c.args.place) c.args.self.now.nodes.now c.in-Some.found.node.now c.in-Some.found.first c.own_binders-binders.result.now (binding c.args.binding.now).bound rest c.in-Some.ensures.only (subst (λ bs. DerivesBlock (world (program c.args.self.now.program.now) c.args.self.now.kind) (scope_of (frames c.args.scope.now)) c.args.core c.args.next (at c.args.self.now.nodes.now c.args.place) (Let bs (binding c.args.binding.now).bound rest)) c.own_binders-binders.ensures.binders h)) c.following-rest.ensures.tree (c.in-Some-expression.ensures.count.0 ∙ ap within (sym (own_bound_is c.args.binding.now))))

pub clause-returns-in-None-clause-other : goal.clause-returns-in-None-clause-other
clause-returns-in-None-clause-other t c h = c.in-None.ensures.other (clause_back (world (program c.args.self.now.program.now) c.args.self.now.kind) (scope_of (frames c.args.scope.now)) c.args.core c.args.next c.args.head.now.taken (owned c.args.head.now.found.node.now.variables.items c.args.head.now.found.node.now.credits.items) (at c.args.self.now.nodes.now c.args.place) (clause c.args.clause.now) (pattern (L.out-Clause c.args.clause.now).pattern) (block (L.out-Clause c.args.clause.now).body) (clause_is c.args.clause.now) h).0

pub clause-returns-then-not-is_owned-clause-other : goal.clause-returns-then-not-is_owned-clause-other
clause-returns-then-not-is_owned-clause-other t c h =
    let g = c.is_owned.ensures.complete (subst (λ k. IsOwned (c.args.next + k) (at c.args.self.now.nodes.now c.args.place)) (sym c.in-Some.ensures.count.0) (clause_back (world (program c.args.self.now.program.now) c.args.self.now.kind) (scope_of (frames c.args.scope.now)) c.args.core c.args.next c.args.head.now.taken (owned c.args.head.now.found.node.now.variables.items c.args.head.now.found.node.now.credits.items) (at c.args.self.now.nodes.now c.args.place) (clause c.args.clause.now) (pattern (L.out-Clause c.args.clause.now).pattern) (block (L.out-Clause c.args.clause.now).body) (clause_is c.args.clause.now) h).1) in
    let u = c.if-not-is_owned.true in cc

pub clause-returns-then-not-goes_on-clause-other : goal.clause-returns-then-not-goes_on-clause-other
clause-returns-then-not-goes_on-clause-other t c h =
    let g = c.goes_on.ensures.complete (rising_more 0 c.args.head.now.below c.args.next c.args.head.now.found.node.now.variables.items c.requires.below c.requires.whole) (inside_more c.args.head.now.taken c.args.head.now.below c.args.next c.requires.below c.requires.inside) (clause_back (world (program c.args.self.now.program.now) c.args.self.now.kind) (scope_of (frames c.args.scope.now)) c.args.core c.args.next c.args.head.now.taken (owned c.args.head.now.found.node.now.variables.items c.args.head.now.found.node.now.credits.items) (at c.args.self.now.nodes.now c.args.place) (clause c.args.clause.now) (pattern (L.out-Clause c.args.clause.now).pattern) (block (L.out-Clause c.args.clause.now).body) (clause_is c.args.clause.now) h).2 in
    let u = c.if-not-goes_on.true in cc

pub clause-returns-in-None-block-clause-other : goal.clause-returns-in-None-block-clause-other
clause-returns-in-None-block-clause-other t c h = c.in-None-block.ensures.other (clause_inner (world (program c.args.self.now.program.now) c.args.self.now.kind) (scope_of (frames c.args.scope.now)) (scope_of (frames c.in_clause-inside.result)) c.args.core c.args.next c.in-Some.count c.args.head.now.taken (at c.args.self.now.nodes.now c.args.place) c.is_taken-taken.result (pattern (L.out-Clause c.args.clause.now).pattern) (block (L.out-Clause c.args.clause.now).body) c.in-Some.ensures.count.0 c.is_taken-taken.ensures.taken c.in_clause-inside.ensures.scope (clause_back (world (program c.args.self.now.program.now) c.args.self.now.kind) (scope_of (frames c.args.scope.now)) c.args.core c.args.next c.args.head.now.taken (owned c.args.head.now.found.node.now.variables.items c.args.head.now.found.node.now.credits.items) (at c.args.self.now.nodes.now c.args.place) (clause c.args.clause.now) (pattern (L.out-Clause c.args.clause.now).pattern) (block (L.out-Clause c.args.clause.now).body) (clause_is c.args.clause.now) h).3)

pub clauses-returns-then-left-eq0-clause-other : goal.clauses-returns-then-left-eq0-clause-other
clauses-returns-then-left-eq0-clause-other t c h = clauses_short (world (program c.args.self.now.program.now) c.args.self.now.kind) (scope_of (frames c.args.scope.now)) c.args.core c.args.next c.args.head.now.taken (owned c.args.head.now.found.node.now.variables.items c.args.head.now.found.node.now.credits.items) c.args.self.now.nodes.now c.args.first c.args.all c.args.clauses.now c.loop-clause.count c.loop-clause.place c.loop-clause.left c.loop-clause.clause-index c.clause-item.result c.loop-clause.invariant c.loop-clause-test.true c.clause-item.is (let z = c.if-left-eq0.true in omega arith) h

pub clauses-returns-in-None-clause-other : goal.clauses-returns-in-None-clause-other
clauses-returns-in-None-clause-other t c h = c.in-None.ensures.other (clauses_here (world (program c.args.self.now.program.now) c.args.self.now.kind) (scope_of (frames c.args.scope.now)) c.args.core c.args.next c.args.head.now.taken (owned c.args.head.now.found.node.now.variables.items c.args.head.now.found.node.now.credits.items) c.args.self.now.nodes.now c.args.first c.args.all c.args.clauses.now c.loop-clause.count c.loop-clause.place c.loop-clause.left c.loop-clause.clause-index (following c.args.self.now.nodes.now c.loop-clause.place) c.clause-item.result c.loop-clause.invariant c.loop-clause-test.true c.clause-item.is (let z = c.if-left-eq0.false in omega arith) refl h).0

pub clauses-returns-then-left-gt0-clause-other : goal.clauses-returns-then-left-gt0-clause-other
clauses-returns-then-left-gt0-clause-other t c h = clauses_long (world (program c.args.self.now.program.now) c.args.self.now.kind) (scope_of (frames c.args.scope.now)) c.args.core c.args.next c.args.head.now.taken (owned c.args.head.now.found.node.now.variables.items c.args.head.now.found.node.now.credits.items) c.args.self.now.nodes.now c.args.first c.args.all c.args.clauses.now c.loop-clause.count c.loop-clause.place c.loop-clause.left c.loop-clause.clause-index c.loop-clause.invariant c.loop-clause-test.false (let z = c.if-left-gt0.true in omega arith) h

pub expression-returns-in-None-clause-other : goal.expression-returns-in-None-clause-other
expression-returns-in-None-clause-other t c h = match_none (world (program c.args.self.now.program.now) c.args.self.now.kind) (scope_of (frames c.args.scope.now)) c.args.core c.args.next (at c.args.self.now.nodes.now c.args.place) c.args.expression.now c.in-Match.kind c.in-Match.ty c.in-Match.place c.in-Match.scrutinee c.in-Match.first c.in-Match.others c.takes-takes.result c.in-Match.is c.takes-takes.ensures.takes c.in-None.ensures.other_taking c.in-None.ensures.other_lending h

pub expression-returns-then-all-eq0-clause-other : goal.expression-returns-then-all-eq0-clause-other
expression-returns-then-all-eq0-clause-other t c h = none_match (world (program c.args.self.now.program.now) c.args.self.now.kind) (scope_of (frames c.args.scope.now)) c.args.core c.args.next c.in-Some.head.taken (owned c.in-Some.head.found.node.now.variables.items c.in-Some.head.found.node.now.credits.items) c.args.self.now.nodes.now c.in-Some.head.found.first c.in-Some.head.found.node.now.parts (clause c.in-Match.first.value).pattern (clause c.in-Match.first.value).body (clauses c.in-Match.others.items) (let z = c.if-all-eq0.true in omega arith) (match_all (world (program c.args.self.now.program.now) c.args.self.now.kind) (scope_of (frames c.args.scope.now)) c.args.core c.args.next (at c.args.self.now.nodes.now c.args.place) c.args.expression.now c.in-Match.kind c.in-Match.ty c.in-Match.place c.in-Match.scrutinee c.in-Match.first c.in-Match.others c.in-Match.first.value c.in-Match.others.items c.in-Some.head.taken c.args.self.now.nodes.now c.in-Some.head.found.first c.in-Some.head.found.node.now c.takes-takes.result c.in-Match.is c.takes-takes.ensures.takes c.in-Some.ensures.only_taking c.in-Some.ensures.only_lending (λ e. (c.in-Some.ensures.lending e).0) refl refl h)

pub expression-returns-in-None-clause-clause-other : goal.expression-returns-in-None-clause-clause-other
expression-returns-in-None-clause-clause-other t c h = c.in-None-clause.ensures.other (clause_match (world (program c.args.self.now.program.now) c.args.self.now.kind) (scope_of (frames c.args.scope.now)) c.args.core c.args.next c.in-Some.head.taken (owned c.in-Some.head.found.node.now.variables.items c.in-Some.head.found.node.now.credits.items) c.args.self.now.nodes.now c.in-Some.head.found.first c.in-Some.head.found.node.now.parts c.deref-in-Some.result.now (clauses c.in-Match.others.items) (let z = c.if-all-eq0.false in omega arith) (match_all (world (program c.args.self.now.program.now) c.args.self.now.kind) (scope_of (frames c.args.scope.now)) c.args.core c.args.next (at c.args.self.now.nodes.now c.args.place) c.args.expression.now c.in-Match.kind c.in-Match.ty c.in-Match.place c.in-Match.scrutinee c.in-Match.first c.in-Match.others c.deref-in-Some.result.now c.in-Match.others.items c.in-Some.head.taken c.args.self.now.nodes.now c.in-Some.head.found.first c.in-Some.head.found.node.now c.takes-takes.result c.in-Match.is c.takes-takes.ensures.takes c.in-Some.ensures.only_taking c.in-Some.ensures.only_lending (λ e. (c.in-Some.ensures.lending e).0) c.deref-in-Some.ensures refl h))

pub expression-returns-in-None-clauses-clause-other : goal.expression-returns-in-None-clauses-clause-other
expression-returns-in-None-clauses-clause-other t c h = c.in-None-clauses.ensures.other (clauses_match (world (program c.args.self.now.program.now) c.args.self.now.kind) (scope_of (frames c.args.scope.now)) c.args.core c.args.next c.in-Some.head.taken (owned c.in-Some.head.found.node.now.variables.items c.in-Some.head.found.node.now.credits.items) c.args.self.now.nodes.now c.in-Some.head.found.first c.following-rest.result c.in-Some.head.found.node.now.parts c.in-Some-clause.one c.deref-in-Some.result.now (clauses c.deref-in-Some-clause.result.now) (let z = c.if-all-eq0.false in omega arith) (c.following-rest.ensures.row (c.in-Some.head.found.node.now.parts - 1)) c.in-Some-clause.ensures.count.0 (match_all (world (program c.args.self.now.program.now) c.args.self.now.kind) (scope_of (frames c.args.scope.now)) c.args.core c.args.next (at c.args.self.now.nodes.now c.args.place) c.args.expression.now c.in-Match.kind c.in-Match.ty c.in-Match.place c.in-Match.scrutinee c.in-Match.first c.in-Match.others c.deref-in-Some.result.now c.deref-in-Some-clause.result.now c.in-Some.head.taken c.args.self.now.nodes.now c.in-Some.head.found.first c.in-Some.head.found.node.now c.takes-takes.result c.in-Match.is c.takes-takes.ensures.takes c.in-Some.ensures.only_taking c.in-Some.ensures.only_lending (λ e. (c.in-Some.ensures.lending e).0) c.deref-in-Some.ensures c.deref-in-Some-clause.ensures.value h))
