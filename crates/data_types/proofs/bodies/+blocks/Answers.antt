use Rattle.std.proofs.Common.{◌∙◌, ◌++◌, sym, ap, List, map, append_assoc}
use Rattle.fip_base.specs.CoreView.{BoundPart, Case, argument, binders, binding, block, block_of, clause, clauses, expression, pattern}
use Rattle.fip_base.specs.declared.core_form.Binder.{Binder}
use Rattle.fip_base.specs.declared.core_form.Binding.{Binding, out-Binding}
use Rattle.fip_base.specs.declared.core_form.Block.{out-Block}
use Rattle.fip_base.specs.declared.core_form.Clause.{Clause, out-Clause}
use Rattle.data_types.specs.Faults.{argument_faults, binders_faults, block_faults, clauses_faults, expression_faults, pattern_faults}
use Rattle.data_types.proofs.CoreForms.{binding_is, clause_is, expression_operation, expression_match}
use Rattle.data_types.proofs.Repeats.{two_noted, walk_step}
use Rattle.data_types.proofs.bodies.+blocks.Goals as goal

pub check_clauses-loop-clause-preserved : goal.check_clauses-loop-clause-preserved
check_clauses-loop-clause-preserved t c =
    let s = c.args.scope.now in
    walk_step (λ d. pattern_faults s (clause d).pattern ++ block_faults s (clause d).body) (λ ds. clauses_faults s (clauses ds)) (λ (x : Clause) (xs : List Clause). sym (append_assoc (pattern_faults s (clause x).pattern) (block_faults s (clause x).body) (clauses_faults s (clauses xs)))) c.args.clauses.now c.loop-clause.clause-index c.clause-item.result c.loop-clause.least c.check_clause.new.least c.loop-clause-test.true c.clause-item.is c.in_ok-check_clause.ensures
    ∙ c.loop-clause.invariant

pub check_block-loop-binding-preserved : goal.check_block-loop-binding-preserved
check_block-loop-binding-preserved t c =
    let s = c.args.scope.now in
    let last = expression (out-Block c.args.block.now).last in
    walk_step (λ b. binders_faults s (binding b).binders ++ expression_faults s (binding b).bound) (λ bs. block_faults s (block_of (map binding bs) last)) (λ (x : Binding) (xs : List Binding). sym (append_assoc (binders_faults s (binding x).binders) (expression_faults s (binding x).bound) (block_faults s (block_of (map binding xs) last)))) c.deref-binding-items.result.now c.loop-binding.binding-index c.binding-item.result c.loop-binding.least c.check_binding.new.least c.loop-binding-test.true c.binding-item.is c.in_ok-check_binding.ensures
    ∙ c.loop-binding.invariant

pub check_binding-returns : goal.check_binding-returns
check_binding-returns t c =
    let s = c.args.scope.now in
    let d = c.args.binding.now in
    let both = ap (λ (b : BoundPart). binders_faults s b.binders ++ expression_faults s b.bound) (binding_is d) ∙ ap (λ (bs : List Binder). binders_faults s (binders bs) ++ expression_faults s (expression (out-Binding d).bound)) (sym c.deref.ensures.value) in
    two_noted c.check_expression.result c.args.least.now c.check_binders.new.least c.check_expression.new.least (binders_faults s (binders c.deref.result.now)) (expression_faults s (expression (out-Binding d).bound)) (binders_faults s (binding d).binders ++ expression_faults s (binding d).bound) c.in_ok-check_binders.ensures both c.check_expression.ensures

pub check_clause-returns : goal.check_clause-returns
check_clause-returns t c =
    let s = c.args.scope.now in
    let d = c.args.clause.now in
    two_noted c.check_block.result c.args.least.now c.check_pattern.new.least c.check_block.new.least (pattern_faults s (pattern (out-Clause d).pattern)) (block_faults s (block (out-Clause d).body)) (pattern_faults s (clause d).pattern ++ block_faults s (clause d).body) c.in_ok-check_pattern.ensures (ap (λ (b : Case). pattern_faults s b.pattern ++ block_faults s b.body) (clause_is d)) c.check_block.ensures

pub check_expression-returns-in_ok-check_argument-in-Operation : goal.check_expression-returns-in_ok-check_argument-in-Operation
check_expression-returns-in_ok-check_argument-in-Operation t c =
    let s = c.args.scope.now in
    let o = c.in-Operation in
    two_noted c.check_argument-in-Operation-2.result c.args.least.now c.check_argument-in-Operation.new.least c.check_argument-in-Operation-2.new.least (argument_faults s (argument o.left)) (argument_faults s (argument o.right)) (expression_faults s (expression c.args.expression.now)) c.in_ok-check_argument-in-Operation.ensures (ap (expression_faults s) (ap expression o.is ∙ expression_operation o.operator o.place o.left o.right)) c.check_argument-in-Operation-2.ensures

pub check_expression-returns-in_ok-check_argument-in-Match : goal.check_expression-returns-in_ok-check_argument-in-Match
check_expression-returns-in_ok-check_argument-in-Match t c =
    let s = c.args.scope.now in
    let m = c.in-Match in
    let both = ap (expression_faults s) (ap expression m.is ∙ expression_match m.kind m.place m.scrutinee m.clauses) ∙ ap (λ (cs : List Clause). argument_faults s (argument m.scrutinee) ++ clauses_faults s (clauses cs)) (sym c.deref-in-Match.ensures.value) in
    two_noted c.check_clauses.result c.args.least.now c.check_argument-in-Match.new.least c.check_clauses.new.least (argument_faults s (argument m.scrutinee)) (clauses_faults s (clauses c.deref-in-Match.result.now)) (expression_faults s (expression c.args.expression.now)) c.in_ok-check_argument-in-Match.ensures both c.check_clauses.ensures
